use Rattle.gb_formats.specs.Message.{spelling}
use Rattle.gb_wire.proofs.Spellings.{decode-spelling, spelling-spells}
use Rattle.gb_wire.proofs.laws.encoded_is_decoded.Goals as goal

pub returns : goal.returns
returns c = λ m more h. decode-spelling (spelling m) more m (spelling-spells m h)
