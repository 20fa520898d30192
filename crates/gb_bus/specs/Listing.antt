-- Lists of numbers in order, that are those which pass a test.
use Rattle.std.specs.Prelude.{◌≡◌, ℕ, ◌+◌, ◌==◌, ◌<◌, Bool, if◌then◌else◌, true, false, Option}
use Rattle.std.specs.Prelude.{Some, None, List, [], ◌∷◌}
use Rattle.std.specs.List.{list_any}
use Rattle.gb_machine.specs.Members.{EachTwo}

-- a number stands in a list
abbrev pub stands_in : ℕ → List ℕ → Bool
stands_in n ns = list_any (λ m. m == n) ns

-- how often a number stands in a list
abbrev pub count : ℕ → List ℕ → ℕ
count n [] = 0
count n (m ∷ ms) = let later = count n ms in if m == n then later + 1 else later

-- each number is below those behind it
abbrev pub Rises : List ℕ → Type 0
Rises = EachTwo (λ n m. n < m)

-- the numbers that pass a test, in order
pub record AreThose (test : ℕ → Bool) (ns : List ℕ) : Type 0 where
  pub rises : Rises ns
  pub each : (n : ℕ) → stands_in n ns ≡ test n

-- a number passes a test, and is the least that does
pub record IsLeast (test : ℕ → Bool) (n : ℕ) : Type 0 where
  pub passes : test n ≡ true
  pub least : (m : ℕ) → m < n → test m ≡ false

-- the least that passes, or that none does
abbrev pub FindsLeast : (ℕ → Bool) → Option ℕ → Type 0
FindsLeast test (Some n) = IsLeast test n
FindsLeast test None = (m : ℕ) → test m ≡ false
