use Rattle.gb_laws.proofs.together.EveryRun.{stale-unrouted}
use Rattle.gb_laws.proofs.laws.stale_requests_meet_low_level.Goals as goal

pub returns : goal.returns
returns c = stale-unrouted
