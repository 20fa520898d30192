use Rattle.gb_laws.proofs.together.EveryRun.{opening-told}
use Rattle.gb_laws.proofs.laws.opening_was_told.Goals as goal

pub returns : goal.returns
returns c = opening-told
