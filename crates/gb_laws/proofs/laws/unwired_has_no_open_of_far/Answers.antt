use Rattle.gb_laws.proofs.together.EveryRun.{unwired-open}
use Rattle.gb_laws.proofs.laws.unwired_has_no_open_of_far.Goals as goal

pub returns : goal.returns
returns c = unwired-open
