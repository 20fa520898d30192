-- The connections that were unwired so far, and those that are left.
use Rattle.std.proofs.Common.{[], drop}
use Rattle.gb_machine.specs.Actions.{each}
use Rattle.gb_machine.specs.State.{State}
use Rattle.gb_machine.specs.Wires.{unwires}
use Rattle.gb_system.proofs.Midways.{Midway}
use Rattle.gb_system.specs.Stands.{PartsStand}
use Rattle.gb_system.proofs.parties.Parties.pull_one.Given as goal

abbrev pub invariant-loop-connection : goal.invariant-loop-connection
invariant-loop-connection l = (s : State) → PartsStand [] l.fn.self s
    → Midway l.self (each l.connection-items unwires)
    (each (drop l.connection-index l.connection-items) unwires) s l.initial.told l.told
