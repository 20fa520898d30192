-- What a test keeps of a list.
use Rattle.std.proofs.Common.{◌≡◌, ◌<◌, Bool, true, false, cond, not, ◌||◌, Some, is_some}
use Rattle.std.proofs.Common.{List, [], ◌∷◌, map, find, length, refl, ap, sym, ◌∙◌, arith}
use Rattle.std.proofs.lemmas.List.Filters.{length-filter_both}
use Rattle.std.specs.List.{filter, list_any}
use Rattle.gb_formats.specs.Lists.{without}

outer : {A : Type 0} (p : A → Bool) (x : A) (xs : List A) (t : Bool)
    → filter p (cond t (x ∷ xs) xs)
    ≡ cond t (cond (p x) (x ∷ filter p xs) (filter p xs)) (filter p xs)
outer p x xs true = refl
outer p x xs false = refl

-- two tests keep the same in either order
pub swapped : {A : Type 0} (p h : A → Bool) (xs : List A)
    → filter p (filter h xs) ≡ filter h (filter p xs)
swapped p h [] = refl
swapped {A} p h (x ∷ xs) =
    outer p x (filter h xs) (h x)
    ∙ ap (λ ys. cond (h x) (cond (p x) (x ∷ ys) ys) ys) (swapped p h xs)
    ∙ by (h x) (p x)
    ∙ sym (outer h x (filter p xs) (p x))
  where
    both : List A
    both = filter h (filter p xs)

    by : (a b : Bool)
        → cond a (cond b (x ∷ both) both) both ≡ cond b (cond a (x ∷ both) both) both
    by true true = refl
    by true false = refl
    by false true = refl
    by false false = refl

-- of what a function gives, a test keeps what it gives of those that pass
pub mapped : {A B : Type 0} (p : B → Bool) (f : A → B) (xs : List A)
    → filter p (map f xs) ≡ map f (filter (λ x. p (f x)) xs)
mapped p f [] = refl
mapped {A} {B} p f (x ∷ xs) = by (p (f x)) (mapped p f xs)
  where
    rest : List A
    rest = filter (λ y. p (f y)) xs

    by : (t : Bool) → filter p (map f xs) ≡ map f rest
        → cond t (f x ∷ filter p (map f xs)) (filter p (map f xs))
        ≡ map f (cond t (x ∷ rest) rest)
    by true rec = ap (λ ys. f x ∷ ys) rec
    by false rec = rec

-- the first that passes is the first that is kept
pub find-kept : {A : Type 0} (p : A → Bool) (xs : List A) → find p (filter p xs) ≡ find p xs
find-kept p [] = refl
find-kept p (x ∷ xs) = by (p x) refl (find-kept p xs)
  where
    by : (t : Bool) → p x ≡ t → find p (filter p xs) ≡ find p xs
        → find p (cond t (x ∷ filter p xs) (filter p xs)) ≡ cond t (Some x) (find p xs)
    by true is rec = ap (λ s. cond s (Some x) (find p (filter p xs))) is
    by false is rec = rec

-- one passes where a first one does
pub any-find : {A : Type 0} (p : A → Bool) (xs : List A) → list_any p xs ≡ is_some (find p xs)
any-find p [] = refl
any-find p (x ∷ xs) = by (p x) (any-find p xs)
  where
    by : (t : Bool) → list_any p xs ≡ is_some (find p xs)
        → (t || list_any p xs) ≡ is_some (cond t (Some x) (find p xs))
    by true rec = refl
    by false rec = rec

-- ---- without those that pass

-- none passes
pub none-without : {A : Type 0} (p : A → Bool) (xs : List A) → list_any p xs ≡ false
    → without p xs ≡ xs
none-without p [] none = refl
none-without p (x ∷ xs) none = by (p x) none (none-without p xs)
  where
    by : (t : Bool) → (t || list_any p xs) ≡ false → (list_any p xs ≡ false → without p xs ≡ xs)
        → cond (not t) (x ∷ without p xs) (without p xs) ≡ x ∷ xs
    by true none rec = absurd cc
    by false none rec = ap (λ ys. x ∷ ys) (rec none)

-- those that pass one test also pass the other
pub without-both : {A : Type 0} (p q : A → Bool) → ((x : A) → p x ≡ true → q x ≡ true)
    → (xs : List A) → without q (without p xs) ≡ without q xs
without-both p q also [] = refl
without-both p q also (x ∷ xs) = by (p x) (q x) refl refl (without-both p q also xs)
  where
    by : (a b : Bool) → p x ≡ a → q x ≡ b → without q (without p xs) ≡ without q xs
        → without q (cond (not a) (x ∷ without p xs) (without p xs))
        ≡ cond (not b) (x ∷ without q xs) (without q xs)
    by true true is it rec = rec
    by true false is it rec = absurd (cc (also x is, it))
    by false b is it rec =
        ap (λ ys. cond (not (q x)) (x ∷ ys) ys) rec
        ∙ ap (λ t. cond (not t) (x ∷ without q xs) (without q xs)) it

-- one passes
pub fewer : {A : Type 0} (p : A → Bool) (xs : List A) → list_any p xs ≡ true
    → length (without p xs) < length xs
fewer p [] some = absurd cc
fewer p (x ∷ xs) some = by (p x) some (fewer p xs)
  where
    by : (t : Bool) → (t || list_any p xs) ≡ true
        → (list_any p xs ≡ true → length (without p xs) < length xs)
        → length (cond (not t) (x ∷ without p xs) (without p xs)) < length (x ∷ xs)
    by true some rec =
        omega (arith, length-filter_both p (λ y. not (p y)) (λ y. refl) xs)
    by false some rec = omega (arith, rec some)
