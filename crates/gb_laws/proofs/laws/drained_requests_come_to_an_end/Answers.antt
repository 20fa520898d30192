use Rattle.gb_laws.proofs.ends.DrainedEnds.{drained-come_to_an_end}
use Rattle.gb_laws.proofs.laws.drained_requests_come_to_an_end.Goals as goal

pub returns : goal.returns
returns c = drained-come_to_an_end
