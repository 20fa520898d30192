use Rattle.gb_laws.proofs.together.EveryRun.{absent-open}
use Rattle.gb_laws.proofs.laws.absent_has_no_open_of_ap.Goals as goal

pub returns : goal.returns
returns c = absent-open
