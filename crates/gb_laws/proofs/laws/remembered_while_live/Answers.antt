use Rattle.gb_laws.proofs.together.EveryRun.{remembered-live}
use Rattle.gb_laws.proofs.laws.remembered_while_live.Goals as goal

pub returns : goal.returns
returns c = remembered-live
