-- The first that passes a test, by its place.
use Rattle.std.proofs.Common.{◌≡◌, ℕ, zero, suc, ◌+◌, ◌<◌, Bool, true, false, cond, Some, None}
use Rattle.std.proofs.Common.{List, [], ◌∷◌, length, get_or, set, refl, ap, ◌∙◌, arith, subst}
use Rattle.std.specs.List.{find, position_from}
use Rattle.gb_machine.specs.Lists.{at_first}

-- what is at the place where the first that passes stands
pub record Standing {A : Type 0} (test : A → Bool) (xs : List A) (i : ℕ) : Type 0 where
  pub within : i < length xs
  pub found : (d : A) → find test xs ≡ Some (get_or xs i d)
  pub changed : (f : A → A) (d : A) → at_first test f xs ≡ set xs i (f (get_or xs i d))

standing-here : {A : Type 0} (test : A → Bool) (x : A) (xs : List A) → test x ≡ true
    → Standing test (x ∷ xs) zero
standing-here test x xs h = record {
  within = omega arith;
  found = λ d. ap (λ b. cond b (Some x) (find test xs)) h;
  changed = λ f d. ap (λ b. cond b (f x ∷ xs) (x ∷ at_first test f xs)) h;
}

standing-later : {A : Type 0} (test : A → Bool) (x : A) (xs : List A) (i : ℕ) → test x ≡ false
    → Standing test xs i
    → Standing test (x ∷ xs) (suc i)
standing-later test x xs i h s = record {
  within = let w = s.within in omega (arith, w);
  found = λ d. ap (λ b. cond b (Some x) (find test xs)) h ∙ s.found d;
  changed = λ f d. ap (λ b. cond b (f x ∷ xs) (x ∷ at_first test f xs)) h
      ∙ ap (λ ys. x ∷ ys) (s.changed f d);
}

-- counted from n, the place is behind so many
standing-from : {A : Type 0} (test : A → Bool) (xs : List A) (n i : ℕ) → position_from test n xs
    ≡ Some i
    → (j : ℕ) × (i ≡ n + j) × Standing test xs j
standing-from test [] n i h = absurd cc
standing-from {A} test (x ∷ xs) n i h = by (test x) refl h (λ k. standing-from test xs (n + 1) i k)
  where
    by : (b : Bool) → test x ≡ b → cond b (Some n) (position_from test (n + 1) xs) ≡ Some i
        → (position_from test (n + 1) xs ≡ Some i
        → (j : ℕ) × (i ≡ (n + 1) + j) × Standing test xs j)
        → (j : ℕ) × (i ≡ n + j) × Standing test (x ∷ xs) j
    by true e h later = let s : n ≡ i = cc in (zero, omega (arith, s), standing-here test x xs e)
    by false e h later =
        let r = later h in
        let s = r.1 in (suc r.0, omega (arith, s), standing-later test x xs r.0 e r.2)

pub standing : {A : Type 0} (test : A → Bool) (xs : List A) (i : ℕ) → position_from test 0 xs
    ≡ Some i → Standing test xs i
standing test xs i h =
    let r = standing-from test xs 0 i h in
    let s = r.1 in let e : r.0 ≡ i = omega (arith, s) in subst (Standing test xs) e r.2

-- where none passes
none-from : {A : Type 0} (test : A → Bool) (xs : List A) (n : ℕ) → position_from test n xs ≡ None
    → (find test xs ≡ None) × ((f : A → A) → at_first test f xs ≡ xs)
none-from test [] n h = (refl, λ f. refl)
none-from {A} test (x ∷ xs) n h = by (test x) refl h (λ k. none-from test xs (n + 1) k)
  where
    by : (b : Bool) → test x ≡ b → cond b (Some n) (position_from test (n + 1) xs) ≡ None
        → (position_from test (n + 1) xs ≡ None
        → (find test xs ≡ None) × ((f : A → A) → at_first test f xs ≡ xs))
        → (find test (x ∷ xs) ≡ None) × ((f : A → A) → at_first test f (x ∷ xs) ≡ x ∷ xs)
    by true e h later = absurd cc
    by false e h later =
        let r = later h in (
          ap (λ b. cond b (Some x) (find test xs)) e ∙ r.0,
          λ f. ap (λ b. cond b (f x ∷ xs) (x ∷ at_first test f xs)) e ∙ ap (λ ys. x ∷ ys) (r.1 f),
        )

pub none-stands : {A : Type 0} (test : A → Bool) (xs : List A) → position_from test 0 xs ≡ None
    → (find test xs ≡ None) × ((f : A → A) → at_first test f xs ≡ xs)
none-stands test xs h = none-from test xs 0 h
