-- The interface is as it was, where there is one.
use Rattle.std.proofs.Common.{None, ap, refl, option_copied}
use Rattle.gb_host.proofs.Restoring.{none-back, one-back}
use Rattle.gb_host.specs.Changes.{interface_awaits}
use Rattle.gb_host.proofs.interfaces.Interfaces.awaits.Goals as goal
use Rattle.gb_machine.specs.Host.{is_intf}

pub returns-in-Some : goal.returns-in-Some
returns-in-Some c =
    one-back (is_intf c.args.intf) (interface_awaits None) (interface_awaits
    c.in-Some.interface.now.awaits) c.args.self.now (option_copied c.at.result)
    c.in-Some.interface.now (λ x. refl) c.at.ensures.found (ap option_copied c.in-Some.is) refl

pub returns-in-None : goal.returns-in-None
returns-in-None c =
    none-back (is_intf c.args.intf) (interface_awaits None) (interface_awaits None) c.args.self.now
    (option_copied c.at.result) (λ x. refl) c.at.ensures.found
    (ap option_copied c.in-None.is)
