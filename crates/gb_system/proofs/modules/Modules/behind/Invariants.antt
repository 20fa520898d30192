-- The place is behind those that were looked at.
use Rattle.std.proofs.Common.{◌≡◌, ◌+◌, drop}
use Rattle.gb_system.specs.Plugging.{place_behind}
use Rattle.gb_system.proofs.modules.Modules.behind.Given as goal

abbrev pub invariant-loop-i : goal.invariant-loop-i
invariant-loop-i l =
    l.i + place_behind l.intf (drop l.i l.plugged-items) ≡ place_behind l.intf l.plugged-items
