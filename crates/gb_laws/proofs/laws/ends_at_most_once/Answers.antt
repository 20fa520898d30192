use Rattle.gb_laws.proofs.together.EveryRun.{ends-at-most-once}
use Rattle.gb_laws.proofs.laws.ends_at_most_once.Goals as goal

pub returns : goal.returns
returns c = ends-at-most-once
