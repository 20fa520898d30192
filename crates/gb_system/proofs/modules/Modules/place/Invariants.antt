-- The module stands among those not looked at yet.
use Rattle.std.proofs.Common.{◌≡◌, drop}
use Rattle.std.specs.List.{position_from}
use Rattle.gb_machine.specs.Modules.{is_plugged_at}
use Rattle.gb_system.proofs.modules.Modules.place.Given as goal

abbrev pub invariant-loop-i : goal.invariant-loop-i
invariant-loop-i l =
    position_from (is_plugged_at l.intf) l.i (drop l.i l.plugged-items)
    ≡ position_from (is_plugged_at l.intf) 0 l.plugged-items
