use Rattle.gb_laws.proofs.runs.Settling.{settles-are_deliveries}
use Rattle.gb_laws.proofs.laws.settles_are_deliveries.Goals as goal

pub returns : goal.returns
returns c = settles-are_deliveries
