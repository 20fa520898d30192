use Rattle.gb_laws.proofs.together.EveryRun.{quiet-removal}
use Rattle.gb_laws.proofs.laws.quiet_before_removal.Goals as goal

pub returns : goal.returns
returns c = quiet-removal
