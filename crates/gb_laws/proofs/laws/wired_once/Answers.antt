use Rattle.gb_laws.proofs.together.EveryRun.{wired-once}
use Rattle.gb_laws.proofs.laws.wired_once.Goals as goal

pub returns : goal.returns
returns c = wired-once
