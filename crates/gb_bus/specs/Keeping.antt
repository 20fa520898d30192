-- How slots are kept: under keys, which are found by number.
use Rattle.std.specs.Prelude.{◌≡◌, ◌≢◌, ◌≤◌, ◌<◌, ℕ, zero, suc, ◌+◌, nat_le, Bool, true, false}
use Rattle.std.specs.Prelude.{if◌then◌else◌, is_none, is_some, Option, Some, None, List, [], ◌∷◌}
use Rattle.std.specs.Option.{option_and_then}
use Rattle.std.specs.BTreeMap.{is_at}
use Rattle.std.specs.BTreeSet.{BTreeSet, contains, insert_key}
use Rattle.std.specs.List.{list_any}
use Rattle.std.specs.Ordering.{nat_cmp, ordering_then}
use Rattle.std.specs.declared.cmp.Ordering.{Ordering}
use Rattle.std.specs.declared.cmp.Reverse.{Reverse}
use Rattle.slab.specs.Slab as slab
use Rattle.slab.specs.Slab.{Slab}
use Rattle.gb_bus.specs.Counting.{counted_once}
use Rattle.gb_bus.specs.Slots.{SlotsKept, slot_at}
use Rattle.gb_bus.specs.declared.deadlines.Deadlines.{Deadlines}
use Rattle.gb_bus.specs.declared.slots.Slot.{Slot}
use Rattle.gb_bus.specs.declared.tally.Tally.{Tally}
use Rattle.gb_table.specs.Table.{item_at}

-- the order of deadlines with their numbers
abbrev pub by_deadline : ℕ × ℕ → ℕ × ℕ → Ordering
by_deadline x y = ordering_then (nat_cmp x.0 y.0) (nat_cmp x.1 y.1)

-- the latest first
abbrev pub by_latest : Reverse (ℕ × ℕ) → Reverse (ℕ × ℕ) → Ordering
by_latest x y = by_deadline y.0 x.0

-- deadlines with their numbers
abbrev pub Early : Type 0
Early = BTreeSet (Reverse (ℕ × ℕ))

-- a deadline stands there with a number
abbrev pub has_deadline : Early → ℕ × ℕ → Bool
has_deadline deadlines x = contains by_latest deadlines (record { 0 = x })

-- an early deadline came
abbrev pub came_early : ℕ → List (Reverse (ℕ × ℕ)) → Bool
came_early now rs = list_any (λ r. nat_le r.0.0 now) rs

-- keys by number
abbrev pub Places : Type 0
Places = List (ℕ × ℕ)

-- what is kept
abbrev pub kept_in : Slab Slot → Places → Tally → SlotsKept
kept_in slots places tally = record {
  slots = slots.slots;
  places = places;
  next = slots.vacant_key;
  tally = tally;
}

-- the deadline of an open request, by what is kept of it
abbrev pub deadline_of : Option Slot → Option ℕ
deadline_of None = None
deadline_of (Some slot) = if is_none slot.outcome then Some slot.deadline else None

-- the deadline of the open request with a number
abbrev pub time_of : Slab Slot → Places → ℕ → Option ℕ
time_of slots places n = deadline_of (option_and_then (slab.get slots) (item_at places n))

-- a request is counted where it is open
abbrev pub one_open : Option ℕ → ℕ
one_open time = if is_some time then 1 else 0

-- how many requests up to a number are open
unfoldable pub how_many : (ℕ → Option ℕ) → ℕ → ℕ
how_many times zero = one_open (times zero)
how_many times (suc n) = one_open (times (suc n)) + how_many times n

-- one deadline with its number is there or not from now on, and each other as it was
abbrev pub Retimed : Early → Early → ℕ → ℕ → Bool → Type 0
Retimed old new deadline n there =
    (q : Reverse (ℕ × ℕ)) → contains by_latest new q
    ≡ (if is_at (by_latest (record { 0 = (deadline, n) })) q
    then there else contains by_latest old q)

-- A new request is open, which is the only one, times out before an older one, or the last of all.
pub record Adds (n deadline : ℕ) (alone : Bool) (old new : Deadlines) : Type 0 where
  pub only : alone ≡ true → new ≡ record old { first = n; latest = deadline }
  pub early : alone ≡ false → deadline < old.latest
      → (new.first ≡ old.first) × (new.latest ≡ old.latest)
      × Retimed old.early new.early deadline n true
  pub last : alone ≡ false → old.latest ≤ deadline → new ≡ record old { latest = deadline }

-- All deadlines are as they were.
pub record Stays (old new : Deadlines) : Type 0 where
  pub first : new.first ≡ old.first
  pub latest : new.latest ≡ old.latest
  pub keys : new.early.keys ≡ old.early.keys

-- A request isn't open any more.
pub record Removes (n deadline : ℕ) (old new : Deadlines) : Type 0 where
  pub first : new.first ≡ old.first
  pub latest : new.latest ≡ old.latest
  pub early : Retimed old.early new.early deadline n false

-- A request isn't open any more, by what is open now. Where it was the first and others are open,
-- the first of these is answered, and else the first as it was.
pub record IsNext (times : ℕ → Option ℕ) (ended first : ℕ) (tally : Tally) (next : ℕ)
    : Type 0 where
  pub passed : (n : ℕ) → first ≤ n → n < next → times n ≡ None
  pub stays : ended ≢ first → next ≡ first
  pub ends : ended ≡ first → tally.left_open ≢ 0 → times next ≡ None → next ≡ tally.requests

-- a number that has something that passes a test, among others in order
abbrev pub put_where : {X : Type 0} → (X → Bool) → List ℕ → ℕ × X → List ℕ
put_where test ns p = if test p.1 then insert_key nat_cmp ns p.0 else ns

-- the numbers of all that passes, among others in order
abbrev pub numbers_where : {X : Type 0} → (X → Bool) → List ℕ → List (ℕ × X) → List ℕ
numbers_where test ns [] = ns
numbers_where test ns (p ∷ ps) = numbers_where test (put_where test ns p) ps

-- nothing is kept of a request any more
abbrev pub is_let_go : Slot → Option Slot
is_let_go slot = None

-- the lesser of a number and one that was found before
abbrev pub lesser_of : ℕ → Option ℕ → ℕ
lesser_of n None = n
lesser_of n (Some m) = if nat_le m n then m else n

-- What is kept of deadlines, where the open requests have these: the early ones are of such; the
-- first is the least that is open; each that isn't early has no earlier deadline than one with a
-- lower number, nor has one a later deadline than the latest; and the open ones are counted.
pub record AreTimed (times : ℕ → Option ℕ) (d : Deadlines) (tally : Tally) : Type 0 where
  pub early : (deadline n : ℕ) → has_deadline d.early (deadline, n) ≡ true
      → times n ≡ Some deadline
  pub least : (n deadline : ℕ) → times n ≡ Some deadline → d.first ≤ n
  pub found : times d.first ≡ None → tally.left_open ≡ 0
  pub rise : (m n before deadline : ℕ) → m < n → times m ≡ Some before
      → times n ≡ Some deadline → has_deadline d.early (deadline, n) ≡ false → before ≤ deadline
  pub latest : (n deadline : ℕ) → times n ≡ Some deadline → deadline ≤ d.latest
  pub waiting : tally.left_open ≡ how_many times tally.requests

-- Each number that has a place has a slot there, which is its own; each slot stands at the place of
-- its number; the deadlines of the open requests are kept; the identifier of an open request is in
-- use; and each request that was made is counted once.
pub record IsKept (slots : Slab Slot) (places : Places) (deadlines : Deadlines)
    (tally : Tally) : Type 0 where
  pub placed : (n key : ℕ) → item_at places n ≡ Some key
      → (slot : Slot) × (slab.get slots key ≡ Some slot) × (slot.number ≡ n)
  pub occupied : (key : ℕ) (slot : Slot) → slab.get slots key ≡ Some slot
      → item_at places slot.number ≡ Some key
  pub timed : AreTimed (time_of slots places) deadlines tally
  pub asked : (n : ℕ) (slot : Slot) → slot_at (kept_in slots places tally) n ≡ Some slot
      → slot.outcome ≡ None → slot.awaited ≡ true
  pub made : (n : ℕ) (slot : Slot)
      → slot_at (kept_in slots places tally) n ≡ Some slot → n ≤ tally.requests
  pub counted : counted_once tally ≡ tally.requests
