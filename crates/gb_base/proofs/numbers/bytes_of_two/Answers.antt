use Rattle.gb_base.proofs.LittleEndian.{little_bytes-number2, little_bytes-number2_front}
use Rattle.gb_base.proofs.numbers.bytes_of_two.Goals as goal

pub returns : goal.returns
returns c = record { both = little_bytes-number2; front = little_bytes-number2_front }
