-- Where a member goes in order.
use Rattle.std.proofs.Common.{◌≡◌, ◌+◌, ℕ, zero, suc, Bool, true, false, cond, Option, Some, None}
use Rattle.std.proofs.Common.{List, [], ◌∷◌, ◌++◌, length, map, take, drop, refl, sym, ap, ◌∙◌}
use Rattle.std.proofs.Common.{arith}
use Rattle.std.specs.List.{insert, position_from}
use Rattle.gb_machine.specs.Lists.{in_order}

-- in front of the first that it comes before
ordered-from : {A : Type 0} (before : A → A → Bool) (x : A) (ys : List A) (n i : ℕ)
    → position_from (before x) n ys ≡ Some i
    → (j : ℕ) × (i ≡ n + j) × (in_order before x ys ≡ take j ys ++ x ∷ drop j ys)
ordered-from before x [] n i h = absurd cc
ordered-from before x (y ∷ ys) n i h =
    by (before x y) refl h (λ k. ordered-from before x ys (n + 1) i k)
  where
    by : (b : Bool) → before x y ≡ b
        → cond b (Some n) (position_from (before x) (n + 1) ys) ≡ Some i
        → (position_from (before x) (n + 1) ys ≡ Some i
        → (j : ℕ) × (i ≡ (n + 1) + j) × (in_order before x ys ≡ take j ys ++ x ∷ drop j ys))
        → (j : ℕ) × (i ≡ n + j)
        × (in_order before x (y ∷ ys) ≡ take j (y ∷ ys) ++ x ∷ drop j (y ∷ ys))
    by true e h later =
        let s : n ≡ i = cc in (
          zero,
          omega (arith, s),
          ap (λ b. cond b (x ∷ y ∷ ys) (y ∷ in_order before x ys)) e,
        )
    by false e h later =
        let r = later h in
        let s = r.1 in (
          suc r.0,
          omega (arith, s),
          ap (λ b. cond b (x ∷ y ∷ ys) (y ∷ in_order before x ys)) e ∙ ap (λ zs. y ∷ zs) r.2,
        )

-- at the end where it comes before none
ordered-last : {A : Type 0} (before : A → A → Bool) (x : A) (ys : List A) (n : ℕ)
    → position_from (before x) n ys ≡ None
    → in_order before x ys ≡ take (length ys) ys ++ x ∷ drop (length ys) ys
ordered-last before x [] n h = refl
ordered-last before x (y ∷ ys) n h =
    by (before x y) refl h (λ k. ordered-last before x ys (n + 1) k)
  where
    by : (b : Bool) → before x y ≡ b
        → cond b (Some n) (position_from (before x) (n + 1) ys) ≡ None
        → (position_from (before x) (n + 1) ys ≡ None
        → in_order before x ys ≡ take (length ys) ys ++ x ∷ drop (length ys) ys)
        → in_order before x (y ∷ ys)
        ≡ take (length (y ∷ ys)) (y ∷ ys) ++ x ∷ drop (length (y ∷ ys)) (y ∷ ys)
    by true e h later = absurd cc
    by false e h later =
        ap (λ b. cond b (x ∷ y ∷ ys) (y ∷ in_order before x ys)) e ∙ ap (λ zs. y ∷ zs) (later h)

-- a member goes where the first stands that it comes before
pub placed : {A : Type 0} (before : A → A → Bool) (x : A) (ys : List A) (o : Option ℕ) (i : ℕ)
    → o ≡ position_from (before x) 0 ys → o ≡ Some i → insert ys i x ≡ in_order before x ys
placed before x ys o i e is =
    let r = ordered-from before x ys 0 i (sym e ∙ is) in
    let s = r.1 in
    let at : r.0 ≡ i = omega (arith, s) in
    sym (r.2 ∙ ap (λ n. insert ys n x) at)

-- or at the end
pub placed-last : {A : Type 0} (before : A → A → Bool) (x : A) (ys : List A) (o : Option ℕ)
    → o ≡ position_from (before x) 0 ys → o ≡ None → insert ys (length ys) x ≡ in_order before x ys
placed-last before x ys o e is = sym (ordered-last before x ys 0 (sym e ∙ is))

-- A map that keeps the order keeps where a member goes.
pub in_order-map : {A B : Type 0} (before : A → A → Bool) (earlier : B → B → Bool) (f : A → B)
    (x : A) (ys : List A) → ((y z : A) → earlier (f y) (f z) ≡ before y z)
    → in_order earlier (f x) (map f ys) ≡ map f (in_order before x ys)
in_order-map before earlier f x [] same = refl
in_order-map before earlier f x (y ∷ ys) same =
    by (earlier (f x) (f y)) (before x y) (same x y) (in_order-map before earlier f x ys same)
  where
    by : (a b : Bool) → a ≡ b
        → in_order earlier (f x) (map f ys) ≡ map f (in_order before x ys)
        → cond a (f x ∷ f y ∷ map f ys) (f y ∷ in_order earlier (f x) (map f ys))
        ≡ map f (cond b (x ∷ y ∷ ys) (y ∷ in_order before x ys))
    by true true e later = refl
    by false false e later = ap (λ zs. f y ∷ zs) later
    by true false e later = absurd cc
    by false true e later = absurd cc
