use Rattle.gb_laws.proofs.together.EveryRun.{endpoints-differ}
use Rattle.gb_laws.proofs.laws.endpoints_differ.Goals as goal

pub returns : goal.returns
returns c = endpoints-differ
