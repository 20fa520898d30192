use Rattle.gb_laws.proofs.together.EveryRun.{one-item}
use Rattle.gb_laws.proofs.laws.one_item_a_number.Goals as goal

pub returns : goal.returns
returns c = one-item
