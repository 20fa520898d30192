-- Requesters and what they have run.
use Rattle.std.specs.Prelude.{◌≡◌, ℕ, ◌+◌, ◌≤◌, ⊤, List, [], ◌∷◌, ◌++◌, length, map, Option}
use Rattle.std.specs.Prelude.{Some, None}
use Rattle.std.specs.List.{slice_get}
use mathlib.Core.List.{IsPrefix}
use Rattle.gb_base.specs.declared.event.Event.{Event}
use Rattle.gb_base.specs.declared.journal.JournalEntry.{JournalEntry}
use Rattle.gb_base.specs.declared.parts.Asked.{Asked}
use Rattle.gb_desk.specs.declared.view.View.{View}
use Rattle.gb_share.specs.Doing.{Adds, HaveAsked, IsWithin, done_by, done_from, tagged}
use Rattle.gb_share.specs.Lines.{AreValid, before_full, count_done, ran}
use Rattle.gb_share.specs.declared.requester.Requester.{Requester}

-- the events that a requester has done
abbrev pub ran_of : Requester → List Event
ran_of x = ran x.lines x.full

-- ---- lines behind a full one

-- Some beginning of the history has asked as many requests as there is room for, and has k events
-- at most that a pass has done with a tag.
pub record IsLate (r k : ℕ) (v : View) : Type 0 where
  pub early : List JournalEntry
  pub begins : IsPrefix early v.seen
  pub asked : HaveAsked v.first early
  pub few : length (done_from r v.mine 0 early) ≤ k

-- the same, if there is a number
abbrev pub AreLateFrom : ℕ → Option ℕ → View → Type 0
AreLateFrom r None v = ⊤
AreLateFrom r (Some k) v = IsLate r k v

-- A pass has done as many events as a requester has lines that were done, and those behind its
-- first full line late.
pub record IsMarked (x : Requester) (v : View) : Type 0 where
  pub count : length (done_by x.who v) ≡ count_done x.full
  pub late : AreLateFrom x.who (before_full x.full) v

-- the same of several requesters
abbrev pub AreMarked : List Requester → View → Type 0
AreMarked xs v = (n : ℕ) (x : Requester) → slice_get xs n ≡ Some x → IsMarked x v

-- ---- what was run

-- A requester ran more of its lines, its pass did their events, and each brought a ticket at most.
pub record Runs (old new : Requester) (v w : View) : Type 0 where
  pub more : List Event
  pub ran : ran_of new ≡ ran_of old ++ more
  pub adds : Adds (tagged old.who more) v w
  pub few : length w.tickets + length old.full ≤ length v.tickets + length new.full
  pub marks : IsMarked old v → IsMarked new w

-- a requester has run all its lines
abbrev pub IsWhole : Requester → Type 0
IsWhole x = length x.full ≡ length x.lines

-- the events that requesters have done, by tag
abbrev pub ran_by : List Requester → ℕ → List Event
ran_by [] r = []
ran_by (x ∷ xs) r = tagged x.who (ran_of x) r ++ ran_by xs r

-- A pass did what these requesters have run.
pub record HaveRun (xs : List Requester) (v w : View) : Type 0 where
  pub adds : Adds (ran_by xs) v w
  pub marked : AreMarked xs w

-- A pass did what requester 0 has run, and then what the others have run.
pub record HaveOpened (first : Requester) (others : List Requester) (v w : View) : Type 0 where
  pub middle : View
  pub within : IsWithin middle
  pub opening : Adds (tagged 0 (ran_of first)) v middle
  pub marked : IsMarked first middle
  pub later : HaveRun others middle w

-- requesters count from one
abbrev pub AreNumbered : List Requester → Type 0
AreNumbered xs = (n : ℕ) (x : Requester) → slice_get xs n ≡ Some x → x.who ≡ n + 1

-- these requesters have run nothing
abbrev pub AreFresh : List Requester → Type 0
AreFresh xs = (n : ℕ) (x : Requester) → slice_get xs n ≡ Some x → x.full ≡ []

-- the lines of these requesters are events that the machine may be given
abbrev pub AllValid : List Requester → Type 0
AllValid xs = (n : ℕ) (x : Requester) → slice_get xs n ≡ Some x → AreValid x.lines

-- these requesters have run all their lines
abbrev pub AreWhole : List Requester → Type 0
AreWhole xs = (n : ℕ) (x : Requester) → slice_get xs n ≡ Some x → IsWhole x

-- who requesters are, and their lines
abbrev pub lines_of : Requester → ℕ × List Asked
lines_of x = (x.who, x.lines)

-- requesters stay who they are, with their lines
abbrev pub AreSame : List Requester → List Requester → Type 0
AreSame xs ys = map lines_of ys ≡ map lines_of xs

-- how many parts requesters need
abbrev pub parts_for : List Requester → ℕ
parts_for [] = 0
parts_for (x ∷ xs) = length x.lines + 1 + parts_for xs
