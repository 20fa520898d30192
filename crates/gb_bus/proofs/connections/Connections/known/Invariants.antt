-- What was told so far, and what the numbers not looked at yet tell, is all.
use Rattle.std.proofs.Common.{◌≡◌, ◌++◌, drop}
use Rattle.gb_bus.proofs.Numbers.{told}
use Rattle.gb_bus.proofs.connections.Connections.known.Given as goal

abbrev pub invariant-loop-number : goal.invariant-loop-number
invariant-loop-number l =
    l.known ++ told l.self (drop l.number-index l.number-items) ≡ told l.self l.number-items
