use Rattle.gb_base.proofs.LittleEndian.{little_bytes-number4, little_bytes-number4_front}
use Rattle.gb_base.proofs.numbers.bytes_of_four.Goals as goal

pub returns : goal.returns
returns c = record { all = little_bytes-number4; front = little_bytes-number4_front }
