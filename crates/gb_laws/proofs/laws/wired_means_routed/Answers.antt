use Rattle.gb_laws.proofs.together.EveryRun.{wired-routed}
use Rattle.gb_laws.proofs.laws.wired_means_routed.Goals as goal

pub returns : goal.returns
returns c = wired-routed
