-- Lists that are seen through a function.
use Rattle.std.proofs.Common.{◌≡◌, Bool, true, false, cond, not, ◌||◌, Some}
use Rattle.std.proofs.Common.{option_map, List, [], ◌∷◌, map, refl, ap, ◌∙◌, inl, inr}
use Rattle.std.specs.List.{filter, find, list_any}
use Rattle.gb_machine.specs.Lists.{at_first, without}
use Rattle.gb_machine.specs.Members.{IsIn}

-- a change of the first that passes
pub map-at_first : {A B : Type 0} (h : A → B) (test : B → Bool) (f : A → A) (g : B → B)
    (xs : List A) → ((x : A) → h (f x) ≡ g (h x))
    → map h (at_first (λ x. test (h x)) f xs) ≡ at_first test g (map h xs)
map-at_first h test f g [] does = refl
map-at_first h test f g (x ∷ xs) does = by (test (h x)) (map-at_first h test f g xs does)
  where
    by : (t : Bool) → map h (at_first (λ y. test (h y)) f xs) ≡ at_first test g (map h xs)
        → map h (cond t (f x ∷ xs) (x ∷ at_first (λ y. test (h y)) f xs))
        ≡ cond t (g (h x) ∷ map h xs) (h x ∷ at_first test g (map h xs))
    by true later = ap (λ y. y ∷ map h xs) (does x)
    by false later = ap (λ ys. h x ∷ ys) later

-- a change that isn't seen
pub map-same_first : {A B : Type 0} (h : A → B) (test : A → Bool) (f : A → A) (xs : List A)
    → ((x : A) → h (f x) ≡ h x) → map h (at_first test f xs) ≡ map h xs
map-same_first h test f [] same = refl
map-same_first h test f (x ∷ xs) same = by (test x) (map-same_first h test f xs same)
  where
    by : (t : Bool) → map h (at_first test f xs) ≡ map h xs
        → map h (cond t (f x ∷ xs) (x ∷ at_first test f xs)) ≡ h x ∷ map h xs
    by true later = ap (λ y. y ∷ map h xs) (same x)
    by false later = ap (λ ys. h x ∷ ys) later

-- those that don't pass
pub map-without : {A B : Type 0} (h : A → B) (test : B → Bool) (xs : List A)
    → map h (without (λ x. test (h x)) xs) ≡ without test (map h xs)
map-without h test [] = refl
map-without h test (x ∷ xs) = by (test (h x)) (map-without h test xs)
  where
    by : (t : Bool) → map h (without (λ y. test (h y)) xs) ≡ without test (map h xs)
        → map h (cond (not t) (x ∷ without (λ y. test (h y)) xs) (without (λ y. test (h y)) xs))
        ≡ cond (not t) (h x ∷ without test (map h xs)) (without test (map h xs))
    by true later = later
    by false later = ap (λ ys. h x ∷ ys) later

-- those that pass
pub filter-map : {A B : Type 0} (h : A → B) (test : B → Bool) (xs : List A)
    → filter test (map h xs) ≡ map h (filter (λ x. test (h x)) xs)
filter-map h test [] = refl
filter-map h test (x ∷ xs) = by (test (h x)) (filter-map h test xs)
  where
    by : (t : Bool) → filter test (map h xs) ≡ map h (filter (λ y. test (h y)) xs)
        → cond t (h x ∷ filter test (map h xs)) (filter test (map h xs))
        ≡ map h (cond t (x ∷ filter (λ y. test (h y)) xs) (filter (λ y. test (h y)) xs))
    by true later = ap (λ ys. h x ∷ ys) later
    by false later = later

-- the first that passes
pub find-map : {A B : Type 0} (h : A → B) (test : B → Bool) (xs : List A)
    → find test (map h xs) ≡ option_map h (find (λ x. test (h x)) xs)
find-map h test [] = refl
find-map h test (x ∷ xs) = by (test (h x)) (find-map h test xs)
  where
    by : (t : Bool) → find test (map h xs) ≡ option_map h (find (λ y. test (h y)) xs)
        → cond t (Some (h x)) (find test (map h xs))
        ≡ option_map h (cond t (Some x) (find (λ y. test (h y)) xs))
    by true later = refl
    by false later = later

-- whether some one passes
pub any-map : {A B : Type 0} (h : A → B) (test : B → Bool) (xs : List A)
    → list_any test (map h xs) ≡ list_any (λ x. test (h x)) xs
any-map h test [] = refl
any-map h test (x ∷ xs) = ap (λ t. test (h x) || t) (any-map h test xs)

-- two functions that say the same of each member
pub map-same : {A B : Type 0} (f g : A → B) (xs : List A) → ((x : A) → IsIn x xs → f x ≡ g x)
    → map f xs ≡ map g xs
map-same f g [] same = refl
map-same f g (x ∷ xs) same =
    ap (λ y. y ∷ map f xs) (same x (inl refl))
    ∙ ap (λ ys. g x ∷ ys) (map-same f g xs (λ y i. same y (inr i)))
