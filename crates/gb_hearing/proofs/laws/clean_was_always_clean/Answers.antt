use Rattle.gb_hearing.proofs.HearsRuns.{clean-was_clean}
use Rattle.gb_hearing.proofs.laws.clean_was_always_clean.Goals as goal

pub returns : goal.returns
returns c = clean-was_clean
