use Rattle.gb_laws.proofs.together.Together.{headline-holds}
use Rattle.gb_laws.proofs.laws.headline.Goals as goal

pub returns : goal.returns
returns c = headline-holds
