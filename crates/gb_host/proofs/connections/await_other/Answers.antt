-- The connection, where there is one, waits for something else.
use Rattle.std.proofs.Common.{◌==◌, sym, ap, ◌∙◌, subst}
use Rattle.gb_host.proofs.Awaiting.{awaited-changed}
use Rattle.gb_host.proofs.Named.{changed-nowhere, number_of}
use Rattle.gb_host.specs.Awaited.{AreAwaited}
use Rattle.gb_host.specs.Changes.{link_awaits}
use Rattle.gb_host.proofs.connections.await_other.Goals as goal

pub returns-in-Some-clause-awaited : goal.returns-in-Some-clause-awaited
returns-in-Some-clause-awaited c = λ says.
    awaited-changed c.args.awaited.now c.change.new.self (λ l. l.connection == c.args.number)
    c.args.links.now.items c.change_of.new.self.items c.change_of.result c.in-Some.link
    c.args.awaits c.change_of.ensures.was c.in-Some.is c.change_of.ensures.changed
    (λ front behind all. c.change.ensures front behind all says)

pub returns-in-None-clause-awaited : goal.returns-in-None-clause-awaited
returns-in-None-clause-awaited c = λ says.
    subst (AreAwaited c.args.awaited.now)
    (changed-nowhere (λ l. l.connection == c.args.number) (link_awaits c.args.awaits)
    c.args.links.now.items (number_of c.change_of.result) (ap number_of c.change_of.ensures.was)
    (ap number_of c.in-None.is) ∙ sym c.change_of.ensures.changed)
