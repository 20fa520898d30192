use Rattle.gb_laws.proofs.credits.CreditsRuns.{credits-add_up}
use Rattle.gb_laws.proofs.laws.credits_add_up.Goals as goal

pub returns : goal.returns
returns c = credits-add_up
