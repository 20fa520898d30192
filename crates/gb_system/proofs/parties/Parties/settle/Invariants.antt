-- What was told so far, and the rest from the state that was reached, are the settle.
use Rattle.gb_machine.specs.State.{State}
use Rattle.gb_system.proofs.Settles.{IsSettling}
use Rattle.gb_system.specs.Stands.{PartiesStand}
use Rattle.gb_system.proofs.parties.Parties.settle.Given as goal

abbrev pub invariant-loop-count : goal.invariant-loop-count
invariant-loop-count l = (s : State) → PartiesStand l.fn.self s
    → IsSettling l.self s l.most l.count l.fn.told l.told
