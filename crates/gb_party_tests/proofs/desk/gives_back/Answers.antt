-- The first of the tickets goes.
use Rattle.std.proofs.Common.{ap, ◌∙◌}
use Rattle.gb_desk.proofs.Holding.{fewer_first}
use Rattle.gb_desk.specs.Tickets.{fewer}
use Rattle.gb_party_tests.proofs.desk.gives_back.Goals as goal

pub returns-clause-tickets : goal.returns-clause-tickets
returns-clause-tickets c = λ ts is.
    ap (λ v. v.tickets) c.release.ensures.released ∙ ap (fewer c.args.t) is
    ∙ fewer_first c.args.t ts
