-- Words on lists that stand for maps, more of them.
use Rattle.std.specs.Prelude.{ℕ, zero, suc, ◌+◌, ◌==◌, nat_le, nat_lt, Bool, false, ◌&&◌}
use Rattle.std.specs.Prelude.{if◌then◌else◌, Option, Some, None, List, [], ◌∷◌, slice_get}
use Rattle.gb_base.specs.declared.refusal.Refusal.{Refusal}
unfoldable pub use Rattle.gb_formats.specs.Lists.{first_free}
pub use Rattle.gb_formats.specs.Lists.{without}

-- the n-th member, counted from 1
abbrev pub nth : {A : Type 0} → ℕ → List A → Option A
nth zero xs = None
nth (suc n) xs = slice_get xs n

-- the first member that passes the test is changed
abbrev pub at_first : {A : Type 0} → (A → Bool) → (A → A) → List A → List A
at_first test change [] = []
at_first test change (x ∷ xs) =
    if test x then change x ∷ xs else x ∷ at_first test change xs

-- what the first pair with this number has
abbrev pub lookup : {A : Type 0} → ℕ → List (ℕ × A) → Option A
lookup n [] = None
lookup n (p ∷ ps) = if p.0 == n then Some p.1 else lookup n ps

-- the first member, and the members behind it
abbrev pub first : {A : Type 0} → List A → Option A
first [] = None
first (x ∷ xs) = Some x

-- the members behind the first
abbrev pub behind_first : {A : Type 0} → List A → List A
behind_first [] = []
behind_first (x ∷ xs) = xs

-- a condition, and the refusal where it is met
abbrev pub Condition : Type 0
Condition = Bool × Refusal

-- the refusal of the first condition that is met
abbrev pub first_met : List Condition → Option Refusal
first_met [] = None
first_met (c ∷ cs) = if c.0 then Some c.1 else first_met cs

-- there is something, and a test holds of it
abbrev pub holds_of : {A : Type 0} → (A → Bool) → Option A → Bool
holds_of test None = false
holds_of test (Some x) = test x

-- the conditions of what there is, none where there is nothing
abbrev pub conditions_of : {A : Type 0} → (A → List Condition) → Option A → List Condition
conditions_of of None = []
conditions_of of (Some x) = of x

-- a member goes in front of the first one that it comes before
abbrev pub in_order : {A : Type 0} → (A → A → Bool) → A → List A → List A
in_order before x [] = x ∷ []
in_order before x (y ∷ ys) =
    let later = in_order before x ys in
    if before x y then x ∷ y ∷ ys else y ∷ later

-- the members in their order
abbrev pub sorted : {A : Type 0} → (A → A → Bool) → List A → List A
sorted before [] = []
sorted before (x ∷ xs) = in_order before x (sorted before xs)

-- so many numbers, from n on
abbrev pub span : ℕ → ℕ → List ℕ
span n zero = []
span n (suc more) = n ∷ span (n + 1) more

-- a number is one of so many, from n on
abbrev pub is_within : ℕ → ℕ → ℕ → Bool
is_within n count i = nat_le n i && nat_lt i (n + count)
