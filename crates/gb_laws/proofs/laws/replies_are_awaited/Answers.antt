use Rattle.gb_laws.proofs.together.EveryRun.{replies-are_awaited}
use Rattle.gb_laws.proofs.laws.replies_are_awaited.Goals as goal

pub returns : goal.returns
returns c = replies-are_awaited
