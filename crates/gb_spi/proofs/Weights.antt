-- A room from which the weights of a list are taken, one after the other.
use Rattle.std.proofs.Common.{◌≡◌, ◌<◌, ◌≤◌, ◌+◌, ℕ, nat_le, nat_lt, true, false, List, [], ◌∷◌}
use Rattle.std.proofs.Common.{sum_by, arith, ap, ◌∙◌}
use Rattle.std.proofs.lemmas.Bool.Decides.{nat_tests}
use Rattle.std.proofs.lemmas.List.Sums.{sum_by-cons}

-- What is left of the room is what the members so far leave of it.
pub record Weighed {A : Type 0} (weight : A → ℕ) (room left : ℕ) (all rest : List A) : Type 0 where
  pub kept : left + sum_by weight all ≡ room + sum_by weight rest
  pub bound : left ≤ room

first_weight : {A : Type 0} (weight : A → ℕ) (rest later : List A) (x : A)
    → rest ≡ x ∷ later → sum_by weight rest ≡ weight x + sum_by weight later
first_weight weight rest later x e = ap (sum_by weight) e ∙ sum_by-cons weight x later

-- one more member doesn't fit
pub weighed_out : {A : Type 0} (weight : A → ℕ) (room left : ℕ) (all rest later : List A) (x : A)
    → rest ≡ x ∷ later → left < weight x → Weighed weight room left all rest
    → room < sum_by weight all
weighed_out weight room left all rest later x e short w =
    let first = first_weight weight rest later x e in
    let kept = w.kept in
    omega (arith, first, kept, short)

-- all of them fit
pub weighed_all : {A : Type 0} (weight : A → ℕ) (room left : ℕ) (all rest : List A)
    → rest ≡ [] → Weighed weight room left all rest → sum_by weight all ≤ room
weighed_all weight room left all rest e w =
    let none : sum_by weight rest ≡ 0 = ap (sum_by weight) e in
    let kept = w.kept in
    let bound = w.bound in
    omega (arith, none, kept, bound)

-- ---- as a test

pub is_within : (n most : ℕ) → n ≤ most → true ≡ nat_le n most
is_within n most h = grind (arith, nat_tests)

pub is_beyond : (n most : ℕ) → most < n → false ≡ nat_le n most
is_beyond n most h = grind (arith, nat_tests)

pub within : (n most : ℕ) → true ≡ nat_le n most → n ≤ most
within n most h = grind (arith, nat_tests)

pub is_not_beyond : (n most : ℕ) → true ≡ nat_le n most → nat_lt most n ≡ false
is_not_beyond n most h = let fits = within n most h in grind (arith, nat_tests)
