use Rattle.gb_laws.proofs.together.EveryRun.{served-leaves}
use Rattle.gb_laws.proofs.laws.served_leaves_none.Goals as goal

pub returns : goal.returns
returns c = served-leaves
