-- The interface stands among those not looked at yet.
use Rattle.std.proofs.Common.{◌≡◌, drop}
use Rattle.std.specs.List.{position_from}
use Rattle.gb_machine.specs.Host.{is_intf}
use Rattle.gb_host.proofs.interfaces.Interfaces.index.Given as goal

abbrev pub invariant-loop-i : goal.invariant-loop-i
invariant-loop-i l =
    position_from (is_intf l.intf) l.i (drop l.i l.interface-items)
    ≡ position_from (is_intf l.intf) 0 l.interface-items
