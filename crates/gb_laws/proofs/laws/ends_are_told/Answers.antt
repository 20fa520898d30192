use Rattle.gb_laws.proofs.together.EveryRun.{ends-are-told}
use Rattle.gb_laws.proofs.laws.ends_are_told.Goals as goal

pub returns : goal.returns
returns c = ends-are-told
