-- The numbers of all passes together.
use Rattle.std.proofs.Common.{◌≡◌, ◌≢◌, ℕ, zero, suc, ◌+◌, ◌<◌, ◌≤◌, ⊎_elim, List, [], ◌∷◌, ◌++◌}
use Rattle.std.proofs.Common.{set, refl, sym, ap, ◌∙◌, arith}
use Rattle.std.proofs.lemmas.Bool.{cases_lt}
use mathlib.Core.Option.{some, some-injective, some-ne-none}
use lib.ListN.{get_elem?}
use Rattle.gb_desk.specs.Rules.{parts_of, spent, total}
use Rattle.gb_desk.specs.Slots.{times}
use Rattle.gb_desk.specs.declared.view.View.{View}

pub total_set : (f : View → ℕ) (views : List View) (j : ℕ) (v w : View)
    → get_elem? views j ≡ some v → total f (set views j w) + f v ≡ total f views + f w
total_set f [] j v w at = absurd (some-ne-none v (sym at))
total_set f (x ∷ xs) zero v w at =
    let e : f x ≡ f v = ap f (some-injective x v at) in omega arith
total_set f (x ∷ xs) (suc j) v w at = let e = total_set f xs j v w at in omega arith

pub total_snoc : (f : View → ℕ) (views : List View) (w : View)
    → total f (views ++ w ∷ []) ≡ total f views + f w
total_snoc f [] w = omega arith
total_snoc f (x ∷ xs) w = let e = total_snoc f xs w in omega arith

-- one of them is no more than all
pub total_at : (f : View → ℕ) (views : List View) (j : ℕ) (v : View)
    → get_elem? views j ≡ some v → f v ≤ total f views
total_at f [] j v at = absurd (some-ne-none v (sym at))
total_at f (x ∷ xs) zero v at =
    let e : f x ≡ f v = ap f (some-injective x v at) in omega arith
total_at f (x ∷ xs) (suc j) v at = let e = total_at f xs j v at in omega arith

-- two of them are no more than all
pub total_two : (f : View → ℕ) (views : List View) (j k : ℕ) (v w : View) → k ≢ j
    → get_elem? views j ≡ some v → get_elem? views k ≡ some w → f v + f w ≤ total f views
total_two f [] j k v w apart at there = absurd (some-ne-none v (sym at))
total_two f (x ∷ xs) zero zero v w apart at there = absurd (apart refl)
total_two f (x ∷ xs) zero (suc k) v w apart at there =
    let e : f x ≡ f v = ap f (some-injective x v at) in
    let m = total_at f xs k w there in omega arith
total_two f (x ∷ xs) (suc j) zero v w apart at there =
    let e : f x ≡ f w = ap f (some-injective x w there) in
    let m = total_at f xs j v at in omega arith
total_two f (x ∷ xs) (suc j) (suc k) v w apart at there =
    let e = total_two f xs j k v w (λ same. apart (ap suc same)) at there in omega arith

total_none : (f : View → ℕ) (views : List View)
    → ((k : ℕ) (w : View) → get_elem? views k ≡ some w → f w ≡ 0) → total f views ≡ 0
total_none f [] none = refl
total_none f (x ∷ xs) none =
    let here = none 0 x refl in
    let later = total_none f xs (λ k w at. none (suc k) w at) in omega arith

total_one : (f : View → ℕ) (views : List View) (j : ℕ) (v : View) → get_elem? views j ≡ some v
    → ((k : ℕ) (w : View) → k ≢ j → get_elem? views k ≡ some w → f w ≡ 0) → total f views ≡ f v
total_one f [] j v at others = absurd (some-ne-none v (sym at))
total_one f (x ∷ xs) zero v at others =
    let e : f x ≡ f v = ap f (some-injective x v at) in
    let later = total_none f xs (λ k w there. others (suc k) w (λ same. omega arith) there) in
    omega arith
total_one f (x ∷ xs) (suc j) v at others =
    let here = others 0 x (λ same. omega arith) refl in
    let later = total_one f xs j v at
    (λ k w apart there. others (suc k) w (λ same. apart (omega arith)) there) in
    omega arith

-- where one has all parts, what the others have is what a spent one has
pub total_alone : (f : View → ℕ) (views : List View) (j : ℕ) (v : View) → f spent ≡ 0
    → get_elem? views j ≡ some v → total parts_of views ≡ v.parts
    → ((k : ℕ) (w : View) → get_elem? views k ≡ some w → w.parts ≡ 0 → w ≡ spent)
    → total f views ≡ f v
total_alone f views j v none at parts idle =
    total_one f views j v at (λ k w apart there.
    (let two = total_two parts_of views j k v w apart at there in
    let is : w.parts ≡ 0 = omega arith in
    ap f (idle k w there is) ∙ none))

pub times_append : (n : ℕ) (xs ys : List ℕ) → times n (xs ++ ys) ≡ times n xs + times n ys
times_append n [] ys = omega arith
times_append n (x ∷ xs) ys = let e = times_append n xs ys in omega arith

-- where all together have some, one has
pub total_some : (f : View → ℕ) (views : List View) → 0 < total f views
    → (j : ℕ) × (v : View) × (get_elem? views j ≡ some v) × (0 < f v)
total_some f [] more = absurd (omega arith)
total_some f (x ∷ xs) more =
    ⊎_elim
    (λ (here : 0 < f x). (0, x, refl, here))
    (λ (later : f x ≤ 0).
    (let rec = total_some f xs (omega arith) in (suc rec.0, rec.1, rec.2, rec.3)))
    (cases_lt 0 (f x))

-- what is no more for each is no more for all
pub total_most : (f g : View → ℕ) (views : List View)
    → ((j : ℕ) (v : View) → get_elem? views j ≡ some v → f v ≤ g v) → total f views ≤ total g views
total_most f g [] each = omega arith
total_most f g (x ∷ xs) each =
    let here = each 0 x refl in
    let later = total_most f g xs (λ j v at. each (suc j) v at) in omega arith
