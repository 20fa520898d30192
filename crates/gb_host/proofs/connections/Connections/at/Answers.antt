-- Where numbers are known, the connection is the one with its number.
use Rattle.std.proofs.Common.{ap, ◌∙◌}
use Rattle.std.specs.List.{find}
use Rattle.gb_host.proofs.Named.{found-numbered}
use Rattle.gb_host.specs.LinkList.{LinkList}
use Rattle.gb_machine.specs.Host.{is_link}
use Rattle.gb_host.proofs.connections.Connections.at.Goals as goal

pub returns : goal.returns
returns c =
    let ls = c.self.inside.links.items in
    let says = c.if-not-self.false in
    c.of.ensures
    ∙ found-numbered (is_link c.args.intf c.args.cport) ls c.number.result c.in_ok-number.number
    (c.self.invariant.rises says) (c.number.ensures ls (c.self.invariant.named says))
    c.in_ok-number.was
    ∙ ap (λ (x : LinkList). find (is_link c.args.intf c.args.cport) x.items) c.self.view_is
