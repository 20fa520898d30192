-- Where it is known which connections wait, the connection is the one with the number.
use Rattle.std.proofs.Common.{ap, ◌∙◌}
use Rattle.std.specs.List.{find}
use Rattle.gb_host.proofs.Named.{found-numbered}
use Rattle.gb_host.specs.Awaited.{waits_for}
use Rattle.gb_host.specs.LinkList.{LinkList}
use Rattle.gb_host.proofs.connections.Connections.waiting_for.Goals as goal

pub returns : goal.returns
returns c =
    let ls = c.self.inside.links.items in
    let says = c.if-not-self.false in
    c.of-2.ensures
    ∙ found-numbered (waits_for c.args.number) ls c.of.result c.in_ok-connection.connection
    (c.self.invariant.rises says) (c.of.ensures ls (c.self.invariant.waiting says))
    c.in_ok-connection.was
    ∙ ap (λ (x : LinkList). find (waits_for c.args.number) x.items) c.self.view_is
