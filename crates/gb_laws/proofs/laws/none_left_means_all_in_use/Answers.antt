use Rattle.gb_laws.proofs.identifiers.NoneLeft.{none-left}
use Rattle.gb_laws.proofs.laws.none_left_means_all_in_use.Goals as goal

pub returns : goal.returns
returns c = none-left
