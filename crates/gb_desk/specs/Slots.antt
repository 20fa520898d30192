-- The slots of a desk: which request has each of them, and how it ended.
use Rattle.std.specs.Prelude.{◌≡◌, ◌+◌, ◌≤◌, ℕ, ◌==◌, if◌then◌else◌, Option, Some, None}
use Rattle.std.specs.Prelude.{option_map, List, [], ◌∷◌, ◌++◌, length, map}
use Rattle.std.specs.List.{slice_get}
use Rattle.gb_base.specs.declared.entry.Entry.{Entry}
use Rattle.gb_base.specs.declared.journal.JournalEntry.{JournalEntry}
use Rattle.gb_base.specs.declared.outcome.Outcome.{Outcome}
use Rattle.gb_base.specs.declared.outcome.Outcome.TheVariants as outcome
use Rattle.gb_desk.specs.declared.slots.Slot.{Slot}
use Rattle.gb_desk.specs.declared.slots.Told.{Told}
use Rattle.gb_desk.specs.declared.slots.Told.TheVariants as told
use Rattle.gb_laws.specs.Tickets.{IsTwoway, asked_in, end_in}
use Rattle.gb_machine.specs.AskingEvents.{asks}
use Rattle.gb_machine.specs.Bus.{or_else, outcome_of}
use Rattle.gb_machine.specs.Members.{IsIn}
use Rattle.gb_machine.specs.State.{State}

-- ---- numbers

-- how often a number stands in a list, counted for one member
abbrev pub hit : ℕ → ℕ → ℕ
hit n m = if m == n then 1 else 0

-- how often a number stands in a list
abbrev pub times : ℕ → List ℕ → ℕ
times n [] = 0
times n (m ∷ ms) = hit n m + times n ms

-- ---- outcomes

-- what is told of an outcome
abbrev pub told_of : Outcome → Option Told
told_of (outcome.Answered result payload) = Some (told.Answered result)
told_of outcome.Cancelled = Some told.Cancelled
told_of outcome.Timeout = Some told.Timeout
told_of outcome.Disconnected = Some told.Disconnected
told_of outcome.Sent = None

-- what is told of an outcome, where there is one
abbrev pub told_by : Option Outcome → Option Told
told_by None = None
told_by (Some how) = told_of how

-- ---- slots

-- a slot once these entries were told
abbrev pub noted : List Entry → Slot → Slot
noted es x = record x { told = or_else x.told (told_by (end_in x.number es)) }

-- all slots once these entries were told
abbrev pub all_noted : List Entry → List (Option Slot) → List (Option Slot)
all_noted es slots = map (option_map (noted es)) slots

-- what is inside of an option in an option
abbrev pub inner : {A : Type 0} → Option (Option A) → Option A
inner None = None
inner (Some o) = o

-- what a slot has, None where no request had it yet
abbrev pub slot_at : ℕ → List (Option Slot) → Option Slot
slot_at i slots = inner (slice_get slots i)

-- no request had a slot from one on
abbrev pub AreUnusedFrom : ℕ → List (Option Slot) → Type 0
AreUnusedFrom n slots = (i : ℕ) → n ≤ i → slot_at i slots ≡ None

-- The slots of a desk, of which those from `used` on had no request.
pub record AreKept (slots : List (Option Slot)) (used : ℕ) : Type 0 where
  pub long : length slots ≡ 256
  pub within : used ≤ 256
  pub unused : AreUnusedFrom used slots

-- the slot of a new request
abbrev pub new_slot : ℕ → Slot
new_slot n = record { number = n; told = None }

-- a slot may be given to a request, where it has no ticket
abbrev pub IsEnded : Option Slot → Type 0
IsEnded None = Unit {0}
IsEnded (Some x) = (told : Told) × (x.told ≡ Some told)

-- the request of a slot is open
abbrev pub IsOpen : Option Slot → Type 0
IsOpen None = ⊥
IsOpen (Some x) = x.told ≡ None

-- the numbers of the requests that slots have
abbrev pub numbers_of : List (Option Slot) → List ℕ
numbers_of [] = []
numbers_of (None ∷ xs) = numbers_of xs
numbers_of (Some x ∷ xs) = x.number ∷ numbers_of xs

-- ---- requests of a history

-- one number or none
abbrev pub listed : Option ℕ → List ℕ
listed None = []
listed (Some n) = n ∷ []

-- the request that a send or a bridge line of a history made
abbrev pub request_in : JournalEntry → List ℕ
request_in e = if asks e.event then listed (asked_in e.entries) else []

-- the requests that the sends and bridge lines of a history made
abbrev pub requests_in : List JournalEntry → List ℕ
requests_in [] = []
requests_in (e ∷ es) = request_in e ++ requests_in es

-- Slots stand for the requests of a history that are open or have tickets: each of them is one of
-- the history and ended as its slot says, no two slots have the same, and each open one has a slot.
pub record SlotsStand (t : State) (made : List ℕ) (slots : List (Option Slot)) : Type 0 where
  pub twoway : (n : ℕ) → IsIn n made → IsTwoway n t.bus
  pub told : (i : ℕ) (x : Slot) → slot_at i slots ≡ Some x
      → told_by (outcome_of x.number t.bus) ≡ x.told
  pub made_in : (n : ℕ) → IsIn n (numbers_of slots) → IsIn n made
  pub once : (n : ℕ) → times n (numbers_of slots) ≤ 1
  pub all : (n : ℕ) → IsIn n made → outcome_of n t.bus ≡ None → IsIn n (numbers_of slots)
