-- What the parties do, as actions of the machine.
use Rattle.std.specs.Prelude.{◌≡◌, Some, None, Result, Ok, Err, ⊤, List, [], ◌++◌}
use Rattle.gb_base.specs.declared.entry.Entry.{Entry}
use Rattle.gb_base.specs.declared.event.Event.{Event}
use Rattle.gb_base.specs.declared.refusal.Refusal.{Refusal}
use Rattle.gb_machine.specs.Actions.{Action}
use Rattle.gb_machine.specs.Events.{does}
use Rattle.gb_machine.specs.Refusals.{refusal}
use Rattle.gb_machine.specs.State.{State}
use Rattle.gb_system.specs.Stands.{PartsStand}
use Rattle.gb_system.specs.declared.parties.Parties.{Parties}
use Rattle.gb_system.specs.declared.stop.Stop.{Stop}
use Rattle.gb_system.specs.declared.stop.Stop.TheVariants as stop

-- This action was done at this state: what it tells is told after what was told before, and the
-- parties stand for the state after it.
pub record Does (x : Parties) (f : Action) (s : State) (before told : List Entry) : Type 0 where
  pub told_is : told ≡ before ++ (f s).entries
  pub stand : PartsStand [] x (f s).state

-- An event isn't refused, and its action was done.
pub record IsDone (x : Parties) (s : State) (e : Event) (before told : List Entry) : Type 0 where
  pub allowed : refusal s e ≡ None
  pub done : Does x (does e) s before told

-- An event is refused, and the parties stand for the state as before.
pub record IsRefused (x : Parties) (s : State) (e : Event) (why : Refusal) : Type 0 where
  pub refused : refusal s e ≡ Some why
  pub stand : PartsStand [] x s

-- By cases on whether it is refused. After want of memory nothing is said.
abbrev pub EventAs : Parties → State → Event → List Entry → List Entry → Result Unit Stop → Type 0
EventAs new s e before told (Ok done) = IsDone new s e before told
EventAs new s e before told (Err (stop.Refused why)) = IsRefused new s e why
EventAs new s e before told (Err (stop.Memory refused)) = ⊤
