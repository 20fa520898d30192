use Rattle.gb_laws.proofs.together.EveryRun.{awaited-last}
use Rattle.gb_laws.proofs.laws.awaited_is_the_last.Goals as goal

pub returns : goal.returns
returns c = awaited-last
