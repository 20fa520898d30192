use Rattle.gb_laws.proofs.together.EveryRun.{open-live}
use Rattle.gb_laws.proofs.laws.open_is_live.Goals as goal

pub returns : goal.returns
returns c = open-live
