use Rattle.gb_laws.proofs.tickets.TicketEnds.{ends-as_told}
use Rattle.gb_laws.proofs.laws.ends_as_told.Goals as goal

pub returns : goal.returns
returns c = ends-as_told
