use Rattle.gb_laws.proofs.identifiers.Single.{counts-add-up}
use Rattle.gb_laws.proofs.laws.counts_add_up.Goals as goal

pub returns : goal.returns
returns c = counts-add-up
