-- Nothing is plugged at those that were looked at.
use Rattle.std.proofs.Common.{◌≡◌, ◌+◌, ◌-◌}
use Rattle.std.specs.List.{list_any}
use Rattle.gb_machine.specs.Lists.{span}
use Rattle.gb_machine.specs.Modules.{is_plugged}
use Rattle.gb_system.proofs.modules.Modules.any.Given as goal

abbrev pub invariant-loop-i : goal.invariant-loop-i
invariant-loop-i l =
    list_any (λ j. is_plugged j l.self) (span (l.intf + l.i) (l.count - l.i))
    ≡ list_any (λ j. is_plugged j l.self) (span l.intf l.count)
