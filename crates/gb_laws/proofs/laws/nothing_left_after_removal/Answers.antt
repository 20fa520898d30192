use Rattle.gb_laws.proofs.together.EveryRun.{nothing-left}
use Rattle.gb_laws.proofs.laws.nothing_left_after_removal.Goals as goal

pub returns : goal.returns
returns c = nothing-left
