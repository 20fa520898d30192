-- The second of the tickets goes, and another comes and goes.
use Rattle.std.proofs.Common.{ap, ◌∙◌}
use Rattle.gb_desk.proofs.Holding.{fewer_second}
use Rattle.gb_desk.specs.Tickets.{fewer}
use Rattle.gb_party_tests.proofs.desk.used_again.Goals as goal

pub returns-clause-tickets : goal.returns-clause-tickets
returns-clause-tickets g c = λ two ts is.
    c.gives_back.ensures.tickets _ c.opens-next.ensures.tickets
    ∙ ap (λ v. v.tickets) c.release.ensures.released ∙ ap (fewer c.args.one) is
    ∙ fewer_second c.args.one two ts
