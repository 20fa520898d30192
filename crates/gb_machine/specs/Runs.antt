-- Runs of events, and their moments.
use Rattle.std.specs.Prelude.{◌≡◌, ℕ, zero, suc, Bool, true, false, Option, Some, None, List, []}
use Rattle.std.specs.Prelude.{◌∷◌, ◌++◌}
use Rattle.std.specs.List.{filter}
use Rattle.gb_base.specs.declared.end.End.{End}
use Rattle.gb_base.specs.declared.entry.Entry.{Entry}
use Rattle.gb_base.specs.declared.entry.Entry.TheVariants as entry
use Rattle.gb_base.specs.declared.event.Event.{Event}
use Rattle.gb_base.specs.declared.event.Event.TheVariants as event
use Rattle.gb_formats.specs.ValidEvents.{IsValid}
use Rattle.gb_machine.specs.Actions.{Told}
use Rattle.gb_machine.specs.Events.{last_state, step, trace}
use Rattle.gb_machine.specs.Members.{Each}
use Rattle.gb_machine.specs.State.{State, first_state}
use Rattle.gb_machine.specs.Waiting.{first_waiting}

-- A run of events that the machine may be given.
abbrev pub AreValid : List Event → Type 0
AreValid es = Each IsValid es

-- what was told in a trace, in order
abbrev pub told_in : List Told → List Entry
told_in [] = []
told_in (t ∷ ts) = t.entries ++ told_in ts

-- What was told in a run of events.
abbrev pub told_by : List Event → List Entry
told_by es = told_in (trace es)

-- The state after a run of events.
abbrev pub state_by : List Event → State
state_by es = last_state first_state (trace es)

-- ---- moments

-- A moment is an event other than a settle, so at most one delivery.
abbrev pub IsMoment : Event → Type 0
IsMoment (event.Settle most) = ⊥
IsMoment e = IsValid e

-- A run of moments.
abbrev pub AreMoments : List Event → Type 0
AreMoments es = Each IsMoment es

-- A moment of a run: what was told before it, the state before it, and the event.
pub record Moment : Type 0 where
  pub told : List Entry
  pub before : State
  pub event : Event

-- The state after a moment.
abbrev pub after : Moment → State
after m = (step m.before m.event).state

-- What is told at a moment.
abbrev pub told_at : Moment → List Entry
told_at m = (step m.before m.event).entries

-- the moments of a run, from a state on
abbrev pub moments_from : List Entry → State → List Event → List Moment
moments_from told s [] = []
moments_from told s (e ∷ es) =
    record { told = told; before = s; event = e }
    ∷ moments_from (told ++ (step s e).entries) (step s e).state es

-- The moments of a run.
abbrev pub moments : List Event → List Moment
moments es = moments_from [] first_state es

-- ---- settles

-- a delivery, and what follows it
abbrev pub delivery_then : Option End → State → (State → List Event) → List Event
delivery_then None s later = []
delivery_then (Some at) s later =
    event.Deliver at ∷ later (step s (event.Deliver at)).state

-- The deliveries of a settle: at most so many.
unfoldable pub deliveries : ℕ → State → List Event
deliveries zero s = []
deliveries (suc left) s = delivery_then (first_waiting s.bus) s (λ t. deliveries left t)

-- the moments of an event
abbrev pub moments_of : Event → State → List Event
moments_of (event.Settle most) s = deliveries most s
moments_of e s = e ∷ []

-- The run of moments that a run of events is, from a state on.
abbrev pub unsettled : State → List Event → List Event
unsettled s [] = []
unsettled s (e ∷ es) = moments_of e s ++ unsettled (step s e).state es

-- an entry tells of a message, a request, a connection or an interface, and not of a line
abbrev pub is_happening : Entry → Bool
is_happening entry.Done = false
is_happening (entry.Settled count) = false
is_happening _ = true

-- what happened
abbrev pub happenings : List Entry → List Entry
happenings told = filter is_happening told

-- A run is a run of moments: the same happens in it, and the state after it is the same.
pub record IsItsDeliveries (es : List Event) : Type 0 where
  pub moments : AreMoments (unsettled first_state es)
  pub state : state_by (unsettled first_state es) ≡ state_by es
  pub told : happenings (told_by (unsettled first_state es)) ≡ happenings (told_by es)

-- Every settle is its deliveries.
abbrev pub SettlesAreDeliveries : Type 0
SettlesAreDeliveries = (es : List Event) → AreValid es → IsItsDeliveries es

-- ---- laws

-- A law of what was told and of the state holds after every run.
abbrev pub HoldsThroughout : (List Entry → State → Type 0) → Type 0
HoldsThroughout Law = (es : List Event) → AreValid es → Law (told_by es) (state_by es)

-- The moments of a run with each settle taken apart.
abbrev pub moments_in : List Event → List Moment
moments_in es = moments (unsettled first_state es)

-- A law of moments holds at every moment of every run.
abbrev pub HoldsAtEachMoment : (Moment → Type 0) → Type 0
HoldsAtEachMoment Law = (es : List Event) → AreValid es → Each Law (moments_in es)
