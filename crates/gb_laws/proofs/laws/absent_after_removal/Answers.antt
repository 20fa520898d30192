use Rattle.gb_laws.proofs.together.EveryRun.{absent-after}
use Rattle.gb_laws.proofs.laws.absent_after_removal.Goals as goal

pub returns : goal.returns
returns c = absent-after
