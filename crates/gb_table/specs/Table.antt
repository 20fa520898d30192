-- Maps from numbers to items, as lists of the numbers that have one.
use Rattle.std.specs.Prelude.{◌≡◌, ◌≢◌, ℕ, ◌+◌, nat_eq, Option, Some, None, List, [], ◌∷◌}
use Rattle.std.specs.Prelude.{slice_get}
use Rattle.std.specs.Map.{lookup}
use Rattle.std.specs.Option.{option_and_then}

-- the item of a number, None where it has none
abbrev pub item_at : {X : Type 0} → List (ℕ × X) → ℕ → Option X
item_at es n = lookup (nat_eq n) es

-- what stands at a place, None past the end
abbrev pub item_in : {X : Type 0} → List (Option X) → ℕ → Option X
item_in places i = option_and_then (λ o. o) (slice_get places i)

-- the numbers from n on that have an item, each with it
abbrev pub entries_from : {X : Type 0} → ℕ → List (Option X) → List (ℕ × X)
entries_from n [] = []
entries_from n (None ∷ places) = entries_from (n + 1) places
entries_from n (Some x ∷ places) = (n, x) ∷ entries_from (n + 1) places

-- a map has this at a number, and at each other number what it had
pub record Puts {X : Type 0} (old new : ℕ → Option X) (key : ℕ) (value : Option X) : Type 0 where
  pub here : new key ≡ value
  pub others : (other : ℕ) → other ≢ key → new other ≡ old other
