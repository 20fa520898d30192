-- The interface is that which the ones not looked at yet have.
use Rattle.std.proofs.Common.{◌≡◌, drop, find}
use Rattle.gb_machine.specs.Host.{is_intf}
use Rattle.gb_host.proofs.interfaces.Interfaces.at.Given as goal

abbrev pub invariant-loop-interface : goal.invariant-loop-interface
invariant-loop-interface l =
    find (is_intf l.intf) (drop l.interface-index l.interface-items)
    ≡ find (is_intf l.intf) l.interface-items
