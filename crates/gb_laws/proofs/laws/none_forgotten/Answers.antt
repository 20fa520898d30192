use Rattle.gb_laws.proofs.together.EveryRun.{none-forgotten}
use Rattle.gb_laws.proofs.laws.none_forgotten.Goals as goal

pub returns : goal.returns
returns c = none-forgotten
