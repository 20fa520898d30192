use Rattle.gb_laws.proofs.together.EveryRun.{closing-none}
use Rattle.gb_laws.proofs.laws.closing_leaves_none_open.Goals as goal

pub returns : goal.returns
returns c = closing-none
