-- The modules that were told so far, and those that are left.
use Rattle.gb_machine.specs.State.{State}
use Rattle.gb_system.proofs.Boots.{IsBooting}
use Rattle.gb_system.specs.Stands.{PartiesStand}
use Rattle.gb_system.proofs.parties.Parties.boot.Given as goal

abbrev pub invariant-loop-i : goal.invariant-loop-i
invariant-loop-i l = (s : State) → PartiesStand l.fn.self s
    → IsBooting l.self s l.i l.i-end l.fn.told l.told
