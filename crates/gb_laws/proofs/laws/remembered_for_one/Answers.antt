use Rattle.gb_laws.proofs.together.EveryRun.{remembered-for}
use Rattle.gb_laws.proofs.laws.remembered_for_one.Goals as goal

pub returns : goal.returns
returns c = remembered-for
