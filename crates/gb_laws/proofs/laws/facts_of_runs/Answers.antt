use Rattle.gb_laws.proofs.together.Together.{facts-together}
use Rattle.gb_laws.proofs.laws.facts_of_runs.Goals as goal

pub returns : goal.returns
returns c = facts-together
