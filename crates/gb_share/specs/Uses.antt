-- How much requesters can still add to a history.
use Rattle.std.specs.Prelude.{◌≡◌, ℕ, ◌+◌, ◌-◌, ◌≤◌, ◌⊎◌, List, [], ◌∷◌, length, Result, Ok, Err}
use mathlib.Core.List.{IsPrefix}
use Rattle.gb_desk.specs.Calls.{OfTaken}
use Rattle.gb_desk.specs.declared.view.View.{View}
use Rattle.gb_share.specs.declared.requester.Requester.{Requester}

-- how many lines a requester has left
abbrev pub lines_left : Requester → ℕ
lines_left x = length x.lines - length x.full

-- the same of several requesters
abbrev pub all_left : List Requester → ℕ
all_left [] = 0
all_left (x ∷ xs) = lines_left x + all_left xs

-- how many places of a history an event brings
abbrev pub places_for : {A E : Type 0} → Result A E → ℕ
places_for (Ok x) = 1
places_for (Err e) = 0

-- A pass has seen as much or more, and has so many places more at most.
pub record Grows (most : ℕ) (v w : View) : Type 0 where
  pub seen : IsPrefix v.seen w.seen
  pub first : w.first ≡ v.first
  pub few : length w.mine ≤ length v.mine + most

-- Where n lines were left a pass went on until k are left. Each brought one place and one ticket
-- at most.
pub record Uses (n k : ℕ) (v w : View) : Type 0 where
  pub seen : IsPrefix v.seen w.seen
  pub first : w.first ≡ v.first
  pub places : length w.mine + k ≤ length v.mine + n
  pub tickets : length w.tickets + k ≤ length v.tickets + n

-- the history that a pass has seen is as long as it can get
abbrev pub HasMost : View → Type 0
HasMost v = OfTaken (λ n. 4294967295 ≤ n) v

-- the history is as long as it can get, or the pass holds as many tickets as it has parts
abbrev pub IsSpent : View → Type 0
IsSpent v = HasMost v ⊎ (length v.tickets ≡ v.parts)
