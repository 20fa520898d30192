-- All are quiet where those not looked at yet are.
use Rattle.std.proofs.Common.{drop}
use Rattle.gb_host.specs.Known.{AreQuiet}
use Rattle.gb_host.proofs.interfaces.are_quiet.Given as goal

abbrev pub invariant-loop-interface : goal.invariant-loop-interface
invariant-loop-interface l =
    AreQuiet (drop l.interface-index l.known) → AreQuiet l.known
