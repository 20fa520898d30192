-- Those that were looked at have the numbers 1, 2, 3 and so on.
use Rattle.gb_module.specs.Places.{AreCounted}
use Rattle.gb_module.proofs.ports.counted_in.Given as goal

abbrev pub invariant-loop-i : goal.invariant-loop-i
invariant-loop-i l = AreCounted l.i l.ports
