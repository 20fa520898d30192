-- The interfaces so far.
use Rattle.std.proofs.Common.{◌≡◌}
use Rattle.gb_machine.specs.Lists.{span}
use Rattle.gb_host.proofs.enumerating.span.Given as goal

abbrev pub invariant-loop-n : goal.invariant-loop-n
invariant-loop-n l = l.intfs ≡ span l.primary l.n
