use Rattle.gb_desk.proofs.Calling.{same_parts, same_tickets}
use Rattle.gb_desk.proofs.desk.Desk.call.Goals as goal

pub returns-clause-parts : goal.returns-clause-parts
returns-clause-parts c = same_parts _ _ _ _ _ c.enter.ensures.calls

pub returns-clause-tickets : goal.returns-clause-tickets
returns-clause-tickets c = same_tickets _ _ _ _ _ c.enter.ensures.calls
