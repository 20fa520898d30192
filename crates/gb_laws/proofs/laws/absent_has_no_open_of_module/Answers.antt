use Rattle.gb_laws.proofs.together.EveryRun.{module-open}
use Rattle.gb_laws.proofs.laws.absent_has_no_open_of_module.Goals as goal

pub returns : goal.returns
returns c = module-open
