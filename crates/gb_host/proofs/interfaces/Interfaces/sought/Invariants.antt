-- The purpose is that which the ones not looked at yet give.
use Rattle.std.proofs.Common.{◌≡◌, drop}
use Rattle.gb_machine.specs.Waits.{interface_waits}
use Rattle.gb_host.proofs.interfaces.Interfaces.sought.Given as goal

abbrev pub invariant-loop-interface : goal.invariant-loop-interface
invariant-loop-interface l =
    interface_waits l.number (drop l.interface-index l.interface-items)
    ≡ interface_waits l.number l.interface-items
