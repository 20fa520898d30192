-- Numbers in groups, as a list of lists.
use Rattle.std.specs.Prelude.{◌≡◌, ◌≢◌, ℕ, ◌==◌, List, [], get_or, length, map}
use Rattle.std.specs.List.Sorted.{IsStrictlySortedBy}
use Rattle.std.specs.Ordering.{nat_cmp}
use Rattle.std.specs.Global.{Vec}
use Rattle.gb_formats.specs.Lists.{without}

-- the numbers of each group
abbrev pub numbers_of : List (Vec ℕ) → List (List ℕ)
numbers_of lists = map (λ v. v.items) lists

-- the numbers of a group
abbrev pub numbers_in : List (List ℕ) → ℕ → List ℕ
numbers_in groups g = get_or groups g []

-- No group has a number.
abbrev pub AreNone : List (List ℕ) → Type 0
AreNone groups = (g : ℕ) → numbers_in groups g ≡ []

-- There is a group for each value of a byte, and the numbers of each rise.
pub record AreRising (groups : List (List ℕ)) : Type 0 where
  pub all : length groups ≡ 256
  pub rise : (g : ℕ) → IsStrictlySortedBy nat_cmp (numbers_in groups g)

-- numbers without one
abbrev pub left_out : ℕ → List ℕ → List ℕ
left_out n ns = without (λ m. m == n) ns

-- A group has these numbers from now on, and each other those that it had.
pub record Regroups (old new : List (List ℕ)) (group : ℕ) (numbers : List ℕ) : Type 0 where
  pub here : numbers_in new group ≡ numbers
  pub others : (g : ℕ) → g ≢ group → numbers_in new g ≡ numbers_in old g
