-- The requests that were given up so far, and those that are left.
use Rattle.std.proofs.Common.{drop}
use Rattle.gb_machine.specs.State.{State}
use Rattle.gb_system.proofs.Ticks.{MidTick}
use Rattle.gb_system.specs.Stands.{PartiesStand}
use Rattle.gb_system.proofs.parties.Parties.tick.Given as goal

abbrev pub invariant-loop-number : goal.invariant-loop-number
invariant-loop-number l = (s : State) → (st : PartiesStand l.fn.self s)
    → MidTick l.self s l.millis l.number-items (drop l.number-index l.number-items)
    l.initial.told l.told
