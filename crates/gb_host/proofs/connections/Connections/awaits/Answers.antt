-- The connection is as it was, where there is one.
use Rattle.std.proofs.Common.{None, refl}
use Rattle.gb_host.proofs.Restoring.{none-back, one-back}
use Rattle.gb_host.specs.Changes.{link_awaits}
use Rattle.gb_host.proofs.connections.Connections.awaits.Goals as goal
use Rattle.gb_machine.specs.Host.{is_link}

pub returns-in-Some : goal.returns-in-Some
returns-in-Some c =
    one-back (is_link c.args.intf c.args.cport) (link_awaits None) (link_awaits
    c.in-Some.link.awaits) c.args.self.now.items c.at.result c.in-Some.link
    (λ l. refl) c.at.ensures c.in-Some.is refl

pub returns-in-None : goal.returns-in-None
returns-in-None c =
    none-back (is_link c.args.intf c.args.cport) (link_awaits None) (link_awaits None)
    c.args.self.now.items c.at.result (λ l. refl) c.at.ensures c.in-None.is
