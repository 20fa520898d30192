-- What running a made script comes to.
use Rattle.std.specs.Prelude.{◌≡◌, ◌+◌, if◌then◌else◌, Result, Ok, Err, ⊤}
use Rattle.gb_base.specs.declared.errors.OutOfMemory.{OutOfMemory}
use Rattle.gb_base.specs.declared.event.Event.{Event}
use Rattle.gb_machine.specs.Events.{step}
use Rattle.gb_machine.specs.State.{State}
use Rattle.gb_machine.specs.Summary.{is_refused}
use Rattle.gb_system.specs.Stands as system
use Rattle.gbus.specs.declared.drive.Driven.{Driven}

-- an event was stepped, and is counted where it was refused
pub record Goes (old new : Driven) (s : State) (e : Event) : Type 0 where
  pub stands : system.Stands new.system (step s e).state
  pub refused : new.refused
      ≡ (if is_refused (step s e).entries then old.refused + 1 else old.refused)

-- By cases on the answer. After want of memory nothing is said.
abbrev pub GoesAs : Driven → Driven → State → Event → {A : Type 0} → Result A OutOfMemory → Type 0
GoesAs old new s e (Ok x) = Goes old new s e
GoesAs old new s e (Err refused) = ⊤
