use Rattle.gb_laws.proofs.together.EveryRun.{nothing-wired}
use Rattle.gb_laws.proofs.laws.removal_leaves_nothing_wired.Goals as goal

pub returns : goal.returns
returns c = nothing-wired
