use Rattle.gb_laws.proofs.tickets.Tickets.{twoway-never_sent, twoway-stays}
use Rattle.gb_laws.proofs.laws.requests_stay.Goals as goal

pub returns : goal.returns
returns c = record { stay = twoway-stays; unsent = twoway-never_sent }
