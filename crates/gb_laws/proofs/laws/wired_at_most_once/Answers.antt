use Rattle.gb_laws.proofs.together.EveryRun.{wired-at_most_once}
use Rattle.gb_laws.proofs.laws.wired_at_most_once.Goals as goal

pub returns : goal.returns
returns c = wired-at_most_once
