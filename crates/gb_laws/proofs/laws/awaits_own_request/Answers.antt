use Rattle.gb_laws.proofs.together.EveryRun.{own-request}
use Rattle.gb_laws.proofs.laws.awaits_own_request.Goals as goal

pub returns : goal.returns
returns c = own-request
