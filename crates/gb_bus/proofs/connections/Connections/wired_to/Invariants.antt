-- The numbers found so far, and those of the others that pass, are all.
use Rattle.std.proofs.Common.{◌≡◌, ◌++◌, drop, filter}
use Rattle.gb_bus.proofs.Numbers.{passes_at}
use Rattle.gb_bus.specs.Parts.{is_wired_to}
use Rattle.gb_bus.proofs.connections.Connections.wired_to.Given as goal

abbrev pub invariant-loop-number : goal.invariant-loop-number
invariant-loop-number l =
    l.numbers
    ++ filter (passes_at (is_wired_to l.intf) l.self) (drop l.number-index l.number-items)
    ≡ filter (passes_at (is_wired_to l.intf) l.self) l.number-items
