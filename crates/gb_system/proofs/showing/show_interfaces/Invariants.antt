-- What was told so far, and the lines of those not looked at yet, is all.
use Rattle.std.proofs.Common.{◌≡◌, ◌++◌, drop, map}
use Rattle.gb_machine.specs.Show.{interface_shown}
use Rattle.gb_system.specs.Showing.{lines}
use Rattle.gb_system.proofs.showing.show_interfaces.Given as goal

abbrev pub invariant-loop-interface : goal.invariant-loop-interface
invariant-loop-interface l =
    l.told ++ lines (map interface_shown (drop l.interface-index l.known))
    ≡ l.fn.told ++ lines (map interface_shown l.known)
