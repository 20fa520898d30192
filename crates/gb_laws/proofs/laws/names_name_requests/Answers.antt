use Rattle.gb_laws.proofs.together.EveryRun.{names-name}
use Rattle.gb_laws.proofs.laws.names_name_requests.Goals as goal

pub returns : goal.returns
returns c = names-name
