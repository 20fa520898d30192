-- The interfaces that were pulled so far, and those that are left.
use Rattle.gb_machine.specs.State.{State}
use Rattle.gb_system.proofs.Pulls.{IsPulling}
use Rattle.gb_system.specs.Stands.{PartiesStand}
use Rattle.gb_system.proofs.parties.Parties.pull.Given as goal

abbrev pub invariant-loop-i : goal.invariant-loop-i
invariant-loop-i l = (s : State) → PartiesStand l.fn.self s
    → IsPulling l.self s l.span.primary l.span.count l.i l.fn.told l.told
