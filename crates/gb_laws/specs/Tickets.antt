-- What holds of the requests that lines of a script ask.
use Rattle.std.specs.Prelude.{◌≡◌, ◌≢◌, ℕ, ◌==◌, true, false, if◌then◌else◌, Option}
use Rattle.std.specs.Prelude.{Some, None, List, [], ◌∷◌}
use Rattle.gb_base.specs.declared.entry.Entry.{Entry}
use Rattle.gb_base.specs.declared.entry.Entry.TheVariants as entry
use Rattle.gb_base.specs.declared.event.Event.{Event}
use Rattle.gb_base.specs.declared.outcome.Outcome.{Outcome}
use Rattle.gb_base.specs.declared.outcome.Outcome.TheVariants as outcome
use Rattle.gb_formats.specs.ValidEvents.{IsValid}
use Rattle.gb_machine.specs.AskingEvents.{asks}
use Rattle.gb_machine.specs.Bus.{Bus, Request, next_number, or_else, outcome_of, request_of}
use Rattle.gb_machine.specs.Events.{step}
use Rattle.gb_machine.specs.Reached.{OfARun}
use Rattle.gb_machine.specs.Refusals.{refusal}
use Rattle.gb_machine.specs.State.{State}

-- the number of the request whose making an entry tells
abbrev pub asked_by : Entry → Option ℕ
asked_by (entry.Asked n from to kind size bytes lost) = Some n
asked_by _ = None

-- The number of the first request whose making entries tell.
abbrev pub asked_in : List Entry → Option ℕ
asked_in [] = None
asked_in (e ∷ es) = or_else (asked_by e) (asked_in es)

-- how an entry tells that request n ended
abbrev pub end_by : ℕ → Entry → Option Outcome
end_by n (entry.Ended m how read) = if m == n then Some how else None
end_by n _ = None

-- How entries tell that request n ended, None where they don't.
abbrev pub end_in : ℕ → List Entry → Option Outcome
end_in n [] = None
end_in n (e ∷ es) = or_else (end_by n e) (end_in n es)

-- Request n was made, and isn't unidirectional.
pub record IsTwoway (n : ℕ) (b : Bus) : Type 0 where
  pub request : Request
  pub made : request_of n b ≡ Some request
  pub twoway : request.oneway ≡ false

-- A request that was made stays so.
abbrev pub TwowayStays : Type 0
TwowayStays = (s : State) (e : Event) → OfARun s → IsValid e → (n : ℕ) → IsTwoway n s.bus
    → IsTwoway n (step s e).state.bus

-- A request that isn't unidirectional never ends as Sent.
abbrev pub TwowayIsNeverSent : Type 0
TwowayIsNeverSent = (s : State) → OfARun s → (n : ℕ) → IsTwoway n s.bus
    → outcome_of n s.bus ≢ Some outcome.Sent

-- After an event a request's outcome is the one that it had, or else the one that is told.
abbrev pub EndsAsTold : Type 0
EndsAsTold = (s : State) (e : Event) → OfARun s → IsValid e → (n : ℕ) → IsTwoway n s.bus
    → outcome_of n (step s e).state.bus ≡ or_else (outcome_of n s.bus) (end_in n (step s e).entries)

-- An event asks a request: it is told, has a number above all earlier ones, and is open.
pub record Asks (s : State) (e : Event) : Type 0 where
  pub told : asked_in (step s e).entries ≡ Some (next_number s.bus)
  pub made : IsTwoway (next_number s.bus) (step s e).state.bus
  pub unended : outcome_of (next_number s.bus) (step s e).state.bus ≡ None

-- Each send and bridge line that isn't refused asks a request.
abbrev pub LinesAsk : Type 0
LinesAsk = (s : State) (e : Event) → OfARun s → IsValid e → asks e ≡ true → refusal s e ≡ None
    → Asks s e
