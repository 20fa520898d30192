-- The requests of which the loader was told so far, and those that are left.
use Rattle.std.proofs.Common.{[], drop}
use Rattle.gb_machine.specs.Actions.{each}
use Rattle.gb_machine.specs.Responding.{disconnects}
use Rattle.gb_machine.specs.State.{State}
use Rattle.gb_system.proofs.LoadEnds.{loses}
use Rattle.gb_system.proofs.Midways.{Midway}
use Rattle.gb_system.specs.Stands.{PartsStand}
use Rattle.gb_system.proofs.parties.Parties.sever.Given as goal

abbrev pub invariant-loop-number : goal.invariant-loop-number
invariant-loop-number l = (s : State) → PartsStand [] l.fn.self s
    → Midway l.self (disconnects l.connection) (each (drop l.number-index l.number-items) loses) s
    l.fn.told l.told
