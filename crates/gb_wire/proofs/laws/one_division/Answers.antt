use Rattle.gb_wire.proofs.StreamDivisions.{divided, stream-only}
use Rattle.gb_wire.proofs.laws.one_division.Goals as goal

pub returns : goal.returns
returns c = record {
  found = divided;
  only = λ bytes rest end messages others. stream-only messages others bytes rest end;
}
