use Rattle.gb_laws.proofs.together.EveryRun.{then-restarts}
use Rattle.gb_laws.proofs.laws.one_enumeration_request_then_restarts.Goals as goal

pub returns : goal.returns
returns c = then-restarts
