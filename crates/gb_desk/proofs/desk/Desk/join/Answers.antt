use Rattle.std.proofs.Common.{ap}
use Rattle.gb_desk.proofs.desk.Desk.join.Goals as goal

pub returns-clause-parts : goal.returns-clause-parts
returns-clause-parts c = ap (λ v. v.parts) c.glue.ensures.joined.rest

pub returns-clause-tickets : goal.returns-clause-tickets
returns-clause-tickets c = ap (λ v. v.tickets) c.glue.ensures.joined.rest
