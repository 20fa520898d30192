use Rattle.gb_hearing.proofs.HearsRuns.{nothing-found}
use Rattle.gb_hearing.proofs.laws.nothing_is_found_while_clean.Goals as goal

pub returns : goal.returns
returns c = nothing-found
