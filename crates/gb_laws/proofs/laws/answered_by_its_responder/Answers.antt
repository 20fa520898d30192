use Rattle.gb_laws.proofs.together.EveryRun.{answered-by_its_responder}
use Rattle.gb_laws.proofs.laws.answered_by_its_responder.Goals as goal

pub returns : goal.returns
returns c = answered-by_its_responder
