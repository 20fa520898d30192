-- What always holds of a desk: its word, its slot and what each pass knows.
use Rattle.std.specs.Prelude.{◌≡◌, ℕ, zero, suc, ◌+◌, ◌<◌, ◌≤◌, Bool, true, false}
use Rattle.std.specs.Prelude.{List, [], ◌∷◌, length, slice_index, Option, Some, None}
use lib.ListN.{get_elem?}
use mathlib.Core.List.{IsPrefix}
use mathlib.Core.Option as core
use Rattle.atomic_table.specs.Table.{State}
use Rattle.gb_desk.specs.Slots.{SlotsStand, hit, requests_in, slot_at, times}
use Rattle.gb_desk.specs.Tickets.{held}
use Rattle.gb_desk.specs.Turns.{is_broken}
use Rattle.gb_desk.specs.declared.slots.Slot.{Slot}
use Rattle.gb_desk.specs.declared.stored.Stored.{Stored}
use Rattle.gb_desk.specs.declared.ticket.Ticket.{Ticket}
use Rattle.gb_desk.specs.declared.view.View.{View}
use Rattle.gb_machine.specs.Journal.{IsLegal, after, events_of}
use Rattle.gb_machine.specs.Members.{IsIn}
use Rattle.gb_machine.specs.Reached.{OfARun}
use Rattle.gb_machine.specs.State as machine
use Rattle.gb_system.specs.Stands.{Stands, taken_of}
use Rattle.gb_system.specs.declared.system.System.{System}

-- ---- numbers

-- how often a place stands among the first ones, so many: once or never
abbrev pub once_below : ℕ → ℕ → ℕ
once_below n zero = 0
once_below n (suc most) = hit n most + once_below n most

-- a number of each pass, all together
abbrev pub total : (View → ℕ) → List View → ℕ
total f [] = 0
total f (v ∷ views) = f v + total f views

abbrev pub parts_of : View → ℕ
parts_of v = v.parts

abbrev pub times_in : ℕ → View → ℕ
times_in n v = times n v.mine

-- how many tickets of a slot a pass holds
abbrev pub held_in : ℕ → View → ℕ
held_in i v = held i v.tickets

abbrev pub one_if : Bool → ℕ
one_if true = 1
one_if false = 0

-- 1 for a pass that knows of want of memory
abbrev pub told_in : View → ℕ
told_in v = one_if v.told

abbrev pub one_at : Option Stored → ℕ
one_at None = 0
one_at (Some x) = 1

-- 1 for a pass that holds the turn
abbrev pub turns_of : View → ℕ
turns_of v = one_at v.out

-- the parts of all passes together
abbrev pub all_parts : ℕ
all_parts = 4294967295

-- ---- what is shared

-- The history is legal from a state, and the slots stand for its requests. The system stands for
-- the state to which it leads, unless an event found no memory.
pub record FollowsFrom (s : machine.State) (x : Stored) : Type 0 where
  pub legal : IsLegal s x.journal (after s (events_of x.journal))
  pub run : OfARun (after s (events_of x.journal))
  pub slots : SlotsStand (after s (events_of x.journal)) (requests_in x.journal) x.slots
  pub stands : is_broken x ≡ false → Stands x.system (after s (events_of x.journal))

-- What is shared follows from the first system.
pub record Sound (first : System) (x : Stored) : Type 0 where
  pub follows : (s : machine.State) → Stands first s → FollowsFrom s x
  pub long : length x.slots ≡ 256
  pub taken : is_broken x ≡ false → taken_of x.system ≡ taken_of first + length x.journal
  pub room : is_broken x ≡ true → taken_of first + length x.journal < 4294967295

-- ---- what passes know

-- a pass that was joined into another one knows nothing
abbrev pub spent : View
spent = record {
  seen = [];
  beside = [];
  mine = [];
  parts = 0;
  met = 0;
  cuts = 0;
  told = false;
  tickets = [];
  used = [];
  clear = None;
  first = None;
  out = None;
}

-- A ticket is of one of the slots, and has the number of the request that has it.
pub record IsOfSlot (slots : List (Option Slot)) (t : Ticket) : Type 0 where
  pub within : t.slot < 256
  pub slot : Slot
  pub there : slot_at t.slot slots ≡ Some slot
  pub number : slot.number ≡ t.number

-- What a pass knows is so.
pub record Fits (start : System) (x : Stored) (v : View) : Type 0 where
  pub seen : IsPrefix v.seen x.journal
  pub beside : IsPrefix v.beside x.journal
  pub told : v.told ≡ true → is_broken x ≡ true
  pub tickets : (t : Ticket) → IsIn t v.tickets → IsOfSlot x.slots t
  pub enough : length v.tickets ≤ v.parts
  pub clear : (i : ℕ) → v.clear ≡ Some i → 0 < turns_of v
  pub first : 0 < v.parts → v.first ≡ Some start
  pub out : (y : Stored) → v.out ≡ Some y → y ≡ x
  pub idle : v.parts ≡ 0 → v ≡ spent

-- where the turn is free, the system is at home
abbrev pub home_of : ℕ → Stored → core.Option Stored
home_of zero x = core.some x
home_of (suc n) x = core.none

-- ---- the rule

-- Something is shared: what the turn's holder took, or what is at home. The first word is 1 where a
-- pass holds the turn, and else 0. Each later word counts the tickets of a slot, and is 0 where the
-- turn's holder found it so. Each place of the history is one that one pass has as its own.
pub record Kept (first : System) (s : State Stored View) : Type 0 where
  pub current : Stored
  pub words : length s.words ≡ 257
  pub word : slice_index s.words 0 ≤ 1
  pub turns : total turns_of s.views ≡ slice_index s.words 0
  pub home : s.homes ≡ home_of (slice_index s.words 0) current ∷ []
  pub sound : Sound first current
  pub each : (j : ℕ) (v : View) → get_elem? s.views j ≡ core.some v → Fits first current v
  pub counts : (i : ℕ) → i < 256 → slice_index s.words (i + 1) ≡ total (held_in i) s.views
  pub clear : (j : ℕ) (v : View) (i : ℕ) → get_elem? s.views j ≡ core.some v → v.clear ≡ Some i
      → (i < 256) × (total (held_in i) s.views ≡ 0)
  pub parts : total parts_of s.views ≡ all_parts
  pub places : (n : ℕ) → total (times_in n) s.views ≡ once_below n (length current.journal)
  pub told : is_broken current ≡ true → 0 < total told_in s.views
