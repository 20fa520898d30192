-- The slots of requests: which requests are kept, and what changes that.
use Rattle.std.specs.Prelude.{◌≡◌, ℕ, ◌+◌, ◌-◌, ◌==◌, nat_lt, nat_le, Bool, true, false, ◌&&◌, ◌||◌}
use Rattle.std.specs.Prelude.{is_none, is_some, if◌then◌else◌, Option, Some, None}
use Rattle.std.specs.Prelude.{option_and_then, List, [], ◌∷◌, slice_index_or}
use Rattle.gb_base.specs.declared.end.Side.{Side}
use Rattle.gb_base.specs.declared.outcome.Outcome.{Outcome}
use Rattle.gb_base.specs.declared.outcome.Outcome.TheVariants as outcome
use Rattle.gb_bus.specs.Counting.{one_ended, with_one}
use Rattle.gb_bus.specs.Listing.{Rises, stands_in}
use Rattle.gb_bus.specs.declared.listing.Listed.{Listed}
use Rattle.gb_bus.specs.declared.listing.Listed.TheVariants as listed
use Rattle.gb_bus.specs.declared.slots.Slot.{Slot}
use Rattle.gb_bus.specs.declared.tally.Tally.{Tally}
use Rattle.gb_machine.specs.Members.{Each}
use Rattle.gb_machine.specs.Requests.{same_side}
use Rattle.gb_table.specs.Table.{item_at}

-- What is kept: slots by key, keys by number, the key of the slot that the next request gets, and
-- the counts of all requests that were made.
pub record SlotsKept : Type 0 where
  pub slots : List (Option Slot)
  pub places : List (ℕ × ℕ)
  pub next : ℕ
  pub tally : Tally

-- the slot under a key
abbrev pub under : List (Option Slot) → ℕ → Option Slot
under slots key = slice_index_or slots key None

-- the key of a request's slot, None where nothing is kept of it
abbrev pub key_at : SlotsKept → ℕ → Option ℕ
key_at x n = item_at x.places n

-- what is kept of a request, None where nothing is
abbrev pub slot_at : SlotsKept → ℕ → Option Slot
slot_at x n = option_and_then (under x.slots) (key_at x n)

-- ---- one slot

-- something still asks for a request: its identifier is in use, or it has a name
abbrev pub is_asked_for : Slot → Bool
is_asked_for slot = slot.awaited || nat_lt 0 slot.names

-- a slot is kept while something asks for its request
abbrev pub while_asked_for : Slot → Option Slot
while_asked_for slot = if is_asked_for slot then Some slot else None

-- an open request ends so: its identifier is free
abbrev pub ends_so : Outcome → Slot → Option Slot
ends_so how slot =
    if is_none slot.outcome
    then while_asked_for (record slot { outcome = Some how; awaited = false })
    else Some slot

-- an open request is given up, and ends so: its identifier stays in use
abbrev pub gives_up_so : Outcome → Slot → Option Slot
gives_up_so how slot =
    if is_none slot.outcome then Some (record slot { outcome = Some how }) else Some slot

-- the identifier of a request that has ended is free
abbrev pub forgets : Slot → Option Slot
forgets slot =
    if is_none slot.outcome then Some slot else while_asked_for (record slot { awaited = false })

-- the most names that a slot counts
abbrev pub most_names : ℕ
most_names = 18446744073709551615

-- a request has one more name
abbrev pub one_more : ℕ → ℕ
one_more n = if n == most_names then n else n + 1

abbrev pub gets_name : Slot → Option Slot
gets_name slot = Some (record slot { names = one_more slot.names })

-- a request has one name less
abbrev pub loses_name : Slot → Option Slot
loses_name slot = while_asked_for (record slot { names = slot.names - 1 })

-- ---- all slots

-- the slot of one request changes, and no other does
abbrev pub ChangesAt : ℕ → (Slot → Option Slot) → SlotsKept → SlotsKept → Type 0
ChangesAt n change old new =
    (m : ℕ) → slot_at new m
    ≡ (if m == n then option_and_then change (slot_at old m) else slot_at old m)

-- a slot is that of an open request
abbrev pub is_open_slot : Option Slot → Bool
is_open_slot None = false
is_open_slot (Some slot) = is_none slot.outcome

-- a name asks for a request that is kept
abbrev pub is_named : Option Slot → Bool
is_named None = false
is_named (Some slot) = nat_lt 0 slot.names

-- the counts where a request ended so, if it was open
abbrev pub ended_at : ℕ → Outcome → SlotsKept → Tally
ended_at n how x = if is_open_slot (slot_at x n) then one_ended how x.tally else x.tally

-- what is kept of one request changes, and the counts are these
pub record MovesAt (n : ℕ) (change : Slot → Option Slot) (tally : Tally)
    (old new : SlotsKept) : Type 0 where
  pub at : ChangesAt n change old new
  pub tally_is : new.tally ≡ tally

-- an open request is kept, which wasn't, in the slot that came next
pub record AddsOpen (slot : Slot) (old new : SlotsKept) : Type 0 where
  pub at : (m : ℕ) → slot_at new m ≡ (if m == slot.number then Some slot else slot_at old m)
  pub placed : key_at new slot.number ≡ Some old.next
  pub tally_is : new.tally ≡ with_one None old.tally

-- a unidirectional request is counted, and nothing is kept of it
pub record Counts (old new : SlotsKept) : Type 0 where
  pub at : (m : ℕ) → slot_at new m ≡ slot_at old m
  pub tally_is : new.tally ≡ with_one (Some outcome.Sent) old.tally

-- a request was made, which may be unidirectional
abbrev pub MakesAs : Bool → Slot → SlotsKept → SlotsKept → Type 0
MakesAs true slot old new = Counts old new
MakesAs false slot old new = AddsOpen slot old new

-- ---- a side is closed

-- what becomes of a slot whose request may be among those that were given up there
abbrev pub frees : Bool → Slot → Option Slot
frees true slot = forgets slot
frees false slot = Some slot

-- what becomes of a slot whose request is among the open ones of the side, where it is open, or
-- among those that were given up there
abbrev pub closes : Bool → Bool → Slot → Option Slot
closes true late slot =
    if is_none slot.outcome then ends_so outcome.Disconnected slot else frees late slot
closes false late slot = frees late slot

-- so many open requests ended as disconnected
abbrev pub all_disconnected : List ℕ → Tally → Tally
all_disconnected [] tally = tally
all_disconnected (n ∷ ns) tally = all_disconnected ns (one_ended outcome.Disconnected tally)

-- these are open, and rise
pub record AreOpen (ns : List ℕ) (x : SlotsKept) : Type 0 where
  pub rises : Rises ns
  pub each : Each (λ n. is_open_slot (slot_at x n) ≡ true) ns

-- These requests end as disconnected, and the identifiers of those are free. The counts are said
-- where the first are open, in order.
pub record Closes (unended late : List ℕ) (old new : SlotsKept) : Type 0 where
  pub at : (m : ℕ)
      → slot_at new m
      ≡ option_and_then (closes (stands_in m unended) (stands_in m late)) (slot_at old m)
  pub tally_is : AreOpen unended old → new.tally ≡ all_disconnected unended old.tally

-- a slot is that of an open request whose deadline came
abbrev pub is_due : ℕ → Option Slot → Bool
is_due now None = false
is_due now (Some slot) = nat_le slot.deadline now && is_none slot.outcome

-- a slot is that of a request of a side of a connection
abbrev pub is_on : ℕ → Side → Slot → Bool
is_on k at slot = slot.connection == k && same_side at slot.side

-- a slot is that of an open one
abbrev pub is_open_on : ℕ → Side → Option Slot → Bool
is_open_on k at None = false
is_open_on k at (Some slot) = is_on k at slot && is_none slot.outcome

-- or of one that has ended, and whose identifier is in use
abbrev pub is_late_on : ℕ → Side → Option Slot → Bool
is_late_on k at None = false
is_late_on k at (Some slot) = is_on k at slot && (is_some slot.outcome && slot.awaited)

-- or of one of those that are listed
abbrev pub is_listed_on : Listed → ℕ → Side → Option Slot → Bool
is_listed_on listed.Open k at o = is_open_on k at o
is_listed_on listed.Late k at o = is_late_on k at o

-- the connection and the side of an open request, by what is kept of it
abbrev pub open_place : Option Slot → Option (ℕ × Side)
open_place None = None
open_place (Some slot) =
    if is_none slot.outcome then Some (slot.connection, slot.side) else None
