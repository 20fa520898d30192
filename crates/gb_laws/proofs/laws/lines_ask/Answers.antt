use Rattle.gb_laws.proofs.tickets.TicketLines.{lines-ask}
use Rattle.gb_laws.proofs.laws.lines_ask.Goals as goal

pub returns : goal.returns
returns c = lines-ask
