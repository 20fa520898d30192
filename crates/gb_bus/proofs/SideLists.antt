-- What is found by its number once one member of a list changes, is new, or is there no more.
use Rattle.std.proofs.Common.{◌≡◌, ◌⊎◌, ℕ, ◌==◌, Bool, true, false, not, cond, Option, Some, None}
use Rattle.std.proofs.Common.{option_map, List, [], ◌∷◌, ◌++◌, refl, sym, ap, ◌∙◌, inl, inr}
use Rattle.std.proofs.lemmas.Bool.{cases_eq}
use Rattle.std.specs.List.{find}
use Rattle.gb_invariants.proofs.Awaiting.{same-some}
use Rattle.gb_invariants.proofs.Outcomes.{same-number}
use Rattle.gb_machine.specs.Lists.{at_first, without}

pub not-none : {A : Type 0} (x : A) → None ≡ Some x → ⊥
not-none x e = absurd cc

-- ---- one member changes

-- What is found by number j where the first with number k changed: that one, or what there was.
pub data Was {A : Type 0} (number : A → ℕ) (k j : ℕ) (f : A → A) (xs : List A)
    (x : A) : Type 0 where
  here : (y : A) → j ≡ k → find (λ a. number a == j) xs ≡ Some y → x ≡ f y → Was number k j f xs x
  past : (j ≡ k → ⊥) → find (λ a. number a == j) xs ≡ Some x → Was number k j f xs x

find-changed : {A : Type 0} (test : A → Bool) (f : A → A) (xs : List A)
    → ((x : A) → test (f x) ≡ test x)
    → find test (at_first test f xs) ≡ option_map f (find test xs)
find-changed test f [] same = refl
find-changed test f (x ∷ xs) same = by (test x) refl (find-changed test f xs same)
  where
    by : (b : Bool) → test x ≡ b → find test (at_first test f xs) ≡ option_map f (find test xs)
        → find test (cond b (f x ∷ xs) (x ∷ at_first test f xs))
        ≡ option_map f (cond b (Some x) (find test xs))
    by true e rec = ap (λ t. cond t (Some (f x)) (find test xs)) (same x ∙ e)
    by false e rec = ap (λ t. cond t (Some x) (find test (at_first test f xs))) e ∙ rec

find-past : {A : Type 0} (number : A → ℕ) (k j : ℕ) (f : A → A) (xs : List A)
    → ((x : A) → number (f x) ≡ number x) → (j ≡ k → ⊥)
    → find (λ a. number a == j) (at_first (λ a. number a == k) f xs)
    ≡ find (λ a. number a == j) xs
find-past number k j f [] same other = refl
find-past number k j f (x ∷ xs) same other =
    by (number x == k) refl (find-past number k j f xs same other)
  where
    first : number x ≡ k → (t : Bool) → (number x == j) ≡ t
        → cond t (Some (f x)) (find (λ a. number a == j) xs)
        ≡ cond t (Some x) (find (λ a. number a == j) xs)
    first on true e = absurd (other (sym (same-number (number x) j e) ∙ on))
    first on false e = refl

    by : (t : Bool) → (number x == k) ≡ t
        → find (λ a. number a == j) (at_first (λ a. number a == k) f xs)
        ≡ find (λ a. number a == j) xs
        → find (λ a. number a == j) (cond t (f x ∷ xs) (x ∷ at_first (λ a. number a == k) f xs))
        ≡ find (λ a. number a == j) (x ∷ xs)
    by true e rec =
        ap (λ n. cond (n == j) (Some (f x)) (find (λ a. number a == j) xs)) (same x)
        ∙ first (same-number (number x) k e) (number x == j) refl
    by false e rec = ap (λ o. cond (number x == j) (Some x) o) rec

pub was : {A : Type 0} (number : A → ℕ) (k j : ℕ) (f : A → A) (xs : List A) (x : A)
    → ((x : A) → number (f x) ≡ number x)
    → find (λ a. number a == j) (at_first (λ a. number a == k) f xs) ≡ Some x
    → Was number k j f xs x
was {A} number k j f xs x same h = by (cases_eq j k)
  where
    mapped : j ≡ k → (o : Option A) → find (λ a. number a == j) xs ≡ o → option_map f o ≡ Some x
        → Was number k j f xs x
    mapped is None e g = absurd (not-none x g)
    mapped is (Some y) e g = here y is e (sym (same-some (f y) x g))

    by : (j ≡ k) ⊎ (j ≡ k → ⊥) → Was number k j f xs x
    by (inl is) =
        mapped is (find (λ a. number a == j) xs) refl
        (sym (find-changed (λ a. number a == j) f xs (λ a. ap (λ n. n == j) (same a)))
        ∙ ap (λ n. find (λ a. number a == j) (at_first (λ a. number a == n) f xs)) is ∙ h)
    by (inr other) = past other (sym (find-past number k j f xs same other) ∙ h)

-- ---- one is there no more

none-of : {A : Type 0} (test : A → Bool) (xs : List A) → find test (without test xs) ≡ None
none-of test [] = refl
none-of test (x ∷ xs) = by (test x) refl (none-of test xs)
  where
    by : (t : Bool) → test x ≡ t → find test (without test xs) ≡ None
        → find test (cond (not t) (x ∷ without test xs) (without test xs)) ≡ None
    by true e h = h
    by false e h = ap (λ b. cond b (Some x) (find test (without test xs))) e ∙ h

find-others : {A : Type 0} (number : A → ℕ) (k j : ℕ) (xs : List A) → (j ≡ k → ⊥)
    → find (λ a. number a == j) (without (λ a. number a == k) xs) ≡ find (λ a. number a == j) xs
find-others number k j [] other = refl
find-others number k j (x ∷ xs) other =
    by (number x == k) refl (find-others number k j xs other)
  where
    gone : number x ≡ k → (t : Bool) → (number x == j) ≡ t
        → find (λ a. number a == j) xs ≡ cond t (Some x) (find (λ a. number a == j) xs)
    gone on true e = absurd (other (sym (same-number (number x) j e) ∙ on))
    gone on false e = refl

    by : (t : Bool) → (number x == k) ≡ t
        → find (λ a. number a == j) (without (λ a. number a == k) xs)
        ≡ find (λ a. number a == j) xs
        → find (λ a. number a == j)
        (cond (not t) (x ∷ without (λ a. number a == k) xs) (without (λ a. number a == k) xs))
        ≡ find (λ a. number a == j) (x ∷ xs)
    by true e rec = rec ∙ gone (same-number (number x) k e) (number x == j) refl
    by false e rec = ap (λ o. cond (number x == j) (Some x) o) rec

-- what is found then was found before
pub find-left : {A : Type 0} (number : A → ℕ) (k j : ℕ) (xs : List A) (x : A)
    → find (λ a. number a == j) (without (λ a. number a == k) xs) ≡ Some x
    → find (λ a. number a == j) xs ≡ Some x
find-left number k j xs x h = by (cases_eq j k)
  where
    by : (j ≡ k) ⊎ (j ≡ k → ⊥) → find (λ a. number a == j) xs ≡ Some x
    by (inl is) =
        absurd (not-none x (sym (none-of (λ a. number a == j) xs)
        ∙ ap (λ n. find (λ a. number a == j) (without (λ a. number a == n) xs)) is ∙ h))
    by (inr other) = sym (find-others number k j xs other) ∙ h

-- ---- one is new

pub find-front : {A : Type 0} (test : A → Bool) (xs ys : List A) (x : A) → find test xs ≡ Some x
    → find test (xs ++ ys) ≡ Some x
find-front test [] ys x h = absurd (not-none x h)
find-front test (y ∷ xs) ys x h = by (test y) h (find-front test xs ys x)
  where
    by : (b : Bool) → cond b (Some y) (find test xs) ≡ Some x
        → (find test xs ≡ Some x → find test (xs ++ ys) ≡ Some x)
        → cond b (Some y) (find test (xs ++ ys)) ≡ Some x
    by true h rec = h
    by false h rec = rec h

pub find-behind : {A : Type 0} (test : A → Bool) (xs ys : List A) → find test xs ≡ None
    → find test (xs ++ ys) ≡ find test ys
find-behind test [] ys h = refl
find-behind test (y ∷ xs) ys h = by (test y) h (find-behind test xs ys)
  where
    by : (b : Bool) → cond b (Some y) (find test xs) ≡ None
        → (find test xs ≡ None → find test (xs ++ ys) ≡ find test ys)
        → cond b (Some y) (find test (xs ++ ys)) ≡ find test ys
    by true h rec = absurd (not-none y (sym h))
    by false h rec = rec h

-- the one alone that is there
pub find-one : {A : Type 0} (number : A → ℕ) (j : ℕ) (y x : A)
    → find (λ a. number a == j) (y ∷ []) ≡ Some x → (y ≡ x) × (number y ≡ j)
find-one number j y x h = by (number y == j) refl h
  where
    by : (b : Bool) → (number y == j) ≡ b → cond b (Some y) None ≡ Some x
        → (y ≡ x) × (number y ≡ j)
    by true e h = (same-some y x h, same-number (number y) j e)
    by false e h = absurd (not-none x h)
