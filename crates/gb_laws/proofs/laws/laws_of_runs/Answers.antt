use Rattle.gb_laws.proofs.together.Together.{laws-together}
use Rattle.gb_laws.proofs.laws.laws_of_runs.Goals as goal

pub returns : goal.returns
returns c = laws-together
