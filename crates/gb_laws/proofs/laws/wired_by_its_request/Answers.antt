use Rattle.gb_laws.proofs.together.EveryRun.{wired-by_request}
use Rattle.gb_laws.proofs.laws.wired_by_its_request.Goals as goal

pub returns : goal.returns
returns c = wired-by_request
