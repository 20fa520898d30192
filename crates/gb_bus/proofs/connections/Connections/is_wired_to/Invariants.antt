-- None that was looked at is one.
use Rattle.std.proofs.Common.{◌≡◌, drop}
use Rattle.std.specs.List.{list_any}
use Rattle.gb_bus.proofs.Numbers.{passes_at}
use Rattle.gb_bus.specs.Parts.{is_wired_to}
use Rattle.gb_bus.proofs.connections.Connections.is_wired_to.Given as goal

abbrev pub invariant-loop-number : goal.invariant-loop-number
invariant-loop-number l =
    list_any (passes_at (is_wired_to l.intf) l.self) (drop l.number-index l.number-items)
    ≡ list_any (passes_at (is_wired_to l.intf) l.self) l.number-items
