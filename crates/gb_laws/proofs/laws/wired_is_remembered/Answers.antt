use Rattle.gb_laws.proofs.together.EveryRun.{remembered-wired}
use Rattle.gb_laws.proofs.laws.wired_is_remembered.Goals as goal

pub returns : goal.returns
returns c = remembered-wired
