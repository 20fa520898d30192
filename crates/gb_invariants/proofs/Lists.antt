-- Laws of members of lists, of lists with one member changed, and of counts.
use Rattle.std.proofs.Common.{Bool, List, Some, ap, cond, false, inl, inr, not, refl, subst, sym}
use Rattle.std.proofs.Common.{true, ℕ, ⊎_elim, [], ◌++◌, ◌∙◌, ◌∷◌, ◌≡◌, ◌≢◌, ◌⊎◌}
use Rattle.std.specs.List.{filter, find}
use Rattle.gb_machine.specs.Members.{Each, EachTwo, IsIn}
use Rattle.gb_machine.specs.Lists.{at_first, without}

-- a test that is true isn't false
pub not-both : (b : Bool) → b ≡ true → b ≡ false → ⊥
not-both b h k = absurd cc

-- ---- members

-- a member of a list is so where each is
pub each-in : {A : Type 0} (P : A → Type 0) (xs : List A) (x : A) → Each P xs → IsIn x xs → P x
each-in P [] x h i = absurd i
each-in P (y ∷ ys) x h i =
    ⊎_elim (λ e. subst P (sym e) h.0) (λ later. each-in P ys x h.1 later) i

-- each member is so where a member is
pub each-from : {A : Type 0} (P : A → Type 0) (xs : List A) → ((x : A) → IsIn x xs → P x)
    → Each P xs
each-from P [] h = tt
each-from P (x ∷ xs) h = (h x (inl refl), each-from P xs (λ y i. h y (inr i)))

-- each member is so where it is so by another fact
pub each-weaker : {A : Type 0} (P Q : A → Type 0) (xs : List A) → ((x : A) → P x → Q x) → Each P xs
    → Each Q xs
each-weaker P Q [] f h = tt
each-weaker P Q (x ∷ xs) f h = (f x h.0, each-weaker P Q xs f h.1)

pub each-append : {A : Type 0} (P : A → Type 0) (xs ys : List A) → Each P xs → Each P ys
    → Each P (xs ++ ys)
each-append P [] ys h k = k
each-append P (x ∷ xs) ys h k = (h.0, each-append P xs ys h.1 k)

pub in-append : {A : Type 0} (x : A) (xs ys : List A) → IsIn x (xs ++ ys) → IsIn x xs ⊎ IsIn x ys
in-append x [] ys i = inr i
in-append x (z ∷ zs) ys i =
    ⊎_elim (λ e. inl (inl e)) (λ later. ⊎_elim (λ a. inl (inr a)) (λ b. inr b)
    (in-append x zs ys later)) i

pub in-front : {A : Type 0} (x : A) (xs ys : List A) → IsIn x xs → IsIn x (xs ++ ys)
in-front x [] ys i = absurd i
in-front x (z ∷ zs) ys i = ⊎_elim (λ e. inl e) (λ later. inr (in-front x zs ys later)) i

pub in-behind : {A : Type 0} (x : A) (xs ys : List A) → IsIn x ys → IsIn x (xs ++ ys)
in-behind x [] ys i = i
in-behind x (z ∷ zs) ys i = inr (in-behind x zs ys i)

-- a member of a list with one more is it or was there
pub in-pushed : {A : Type 0} (x : A) (xs : List A) (y : A) → IsIn x (xs ++ y ∷ [])
    → IsIn x xs ⊎ (x ≡ y)
in-pushed x xs y i = ⊎_elim (λ a. inl a) (λ b. ⊎_elim (λ e. inr e) (λ n. absurd n) b)
    (in-append x xs (y ∷ []) i)

-- where no two have the same key, members with the same are one
pub one-by : {A : Type 0} (key : A → ℕ) (xs : List A) (x y : A)
    → EachTwo (λ a b. key a ≢ key b) xs → IsIn x xs → IsIn y xs → key x ≡ key y → x ≡ y
one-by key [] x y differ i j same = absurd i
one-by key (z ∷ zs) x y differ (inl e) (inl f) same = e ∙ sym f
one-by key (z ∷ zs) x y differ (inl e) (inr j) same =
    absurd (each-in (λ a. key z ≢ key a) zs y differ.0 j (ap key (sym e) ∙ same))
one-by key (z ∷ zs) x y differ (inr i) (inl f) same =
    absurd (each-in (λ a. key z ≢ key a) zs x differ.0 i (ap key (sym f) ∙ sym same))
one-by key (z ∷ zs) x y differ (inr i) (inr j) same = one-by key zs x y differ.1 i j same

-- ---- what passes a test

in-cond : {A : Type 0} (b : Bool) (x y : A) (ys : List A) → IsIn x (cond b (y ∷ ys) ys)
    → ((x ≡ y) × (b ≡ true)) ⊎ IsIn x ys
in-cond true x y ys i = ⊎_elim (λ e. inl (e, refl)) (λ later. inr later) i
in-cond false x y ys i = inr i

-- a member that passes was there and passes
pub in-filter : {A : Type 0} (test : A → Bool) (xs : List A) (x : A) → IsIn x (filter test xs)
    → IsIn x xs × (test x ≡ true)
in-filter test [] x i = absurd i
in-filter test (y ∷ ys) x i = by (in-cond (test y) x y (filter test ys) i) (in-filter test ys x)
  where
    by : ((x ≡ y) × (test y ≡ true)) ⊎ IsIn x (filter test ys)
        → (IsIn x (filter test ys) → IsIn x ys × (test x ≡ true))
        → IsIn x (y ∷ ys) × (test x ≡ true)
    by (inl h) rec = (inl h.0, ap test h.0 ∙ h.1)
    by (inr later) rec = (inr (rec later).0, (rec later).1)

not-true : (b : Bool) → not b ≡ true → b ≡ false
not-true true h = cc
not-true false h = refl

-- a member that is left was there and doesn't pass
pub in-without : {A : Type 0} (test : A → Bool) (xs : List A) (x : A) → IsIn x (without test xs)
    → IsIn x xs × (test x ≡ false)
in-without test xs x i =
    let h = in-filter (λ y. not (test y)) xs x i in (h.0, not-true (test x) h.1)

in-kept : {A : Type 0} (b : Bool) (x : A) (ys : List A) → b ≡ true → IsIn x (cond b (x ∷ ys) ys)
in-kept true x ys h = inl refl
in-kept false x ys h = cc

in-later : {A : Type 0} (b : Bool) (x y : A) (ys : List A) → IsIn x ys → IsIn x (cond b (y ∷ ys) ys)
in-later true x y ys i = inr i
in-later false x y ys i = i

-- a member that passes stays
pub filter-in : {A : Type 0} (test : A → Bool) (xs : List A) (x : A) → IsIn x xs → test x ≡ true
    → IsIn x (filter test xs)
filter-in test [] x i h = absurd i
filter-in test (y ∷ ys) x (inl e) h =
    subst (λ z. IsIn x (cond (test z) (z ∷ filter test ys) (filter test ys))) e
    (in-kept (test x) x (filter test ys) h)
filter-in test (y ∷ ys) x (inr later) h = in-later (test y) x y (filter test ys)
    (filter-in test ys x later h)

pub stays-without : {A : Type 0} (test : A → Bool) (xs : List A) (x : A) → IsIn x xs
    → test x ≡ false → IsIn x (without test xs)
stays-without test xs x i h = filter-in (λ y. not (test y)) xs x i (ap not h)

-- what is found is a member that passes
pub found-in : {A : Type 0} (test : A → Bool) (xs : List A) (x : A) → find test xs ≡ Some x
    → IsIn x xs × (test x ≡ true)
found-in test [] x h = absurd cc
found-in test (y ∷ ys) x h = by (test y) refl h (found-in test ys x)
  where
    by : (b : Bool) → test y ≡ b → cond b (Some y) (find test ys) ≡ Some x
        → (find test ys ≡ Some x → IsIn x ys × (test x ≡ true)) → IsIn x (y ∷ ys) × (test x ≡ true)
    by true e h rec = let s : x ≡ y = cc in (inl s, ap test s ∙ e)
    by false e h rec = (inr (rec h).0, (rec h).1)

-- ---- the first that passes is changed

-- a member then was there, or is the changed one of a member that passes
pub in-at_first : {A : Type 0} (test : A → Bool) (change : A → A) (xs : List A) (x : A)
    → IsIn x (at_first test change xs)
    → IsIn x xs ⊎ ((y : A) × IsIn y xs × (test y ≡ true) × (x ≡ change y))
in-at_first test change [] x i = absurd i
in-at_first {A} test change (y ∷ ys) x i = by (test y) refl i (in-at_first test change ys x)
  where
    Was : List A → Type 0
    Was zs = IsIn x zs ⊎ ((z : A) × IsIn z zs × (test z ≡ true) × (x ≡ change z))

    by : (b : Bool) → test y ≡ b → IsIn x (cond b (change y ∷ ys) (y ∷ at_first test change ys))
        → (IsIn x (at_first test change ys) → Was ys) → Was (y ∷ ys)
    by true e (inl is) rec = inr (y, inl refl, e, is)
    by true e (inr later) rec = inl (inr later)
    by false e (inl is) rec = inl (inl is)
    by false e (inr later) rec =
        ⊎_elim (λ a. inl (inr a)) (λ h. inr (h.0, inr h.1, h.2, h.3)) (rec later)

-- a member stays, where it isn't the one that is changed
pub at_first-stays : {A : Type 0} (test : A → Bool) (change : A → A) (xs : List A) (x : A)
    → IsIn x xs → test x ≡ false → IsIn x (at_first test change xs)
at_first-stays test change [] x i h = absurd i
at_first-stays test change (y ∷ ys) x i h = by (test y) refl i (at_first-stays test change ys x)
  where
    by : (b : Bool) → test y ≡ b → IsIn x (y ∷ ys)
        → (IsIn x ys → test x ≡ false → IsIn x (at_first test change ys))
        → IsIn x (cond b (change y ∷ ys) (y ∷ at_first test change ys))
    by true e (inl is) rec = absurd (not-both (test x) (ap test is ∙ e) h)
    by true e (inr j) rec = inr j
    by false e (inl is) rec = inl is
    by false e (inr j) rec = inr (rec j h)

-- a member stays, or the changed one is there
pub at_first-back : {A : Type 0} (test : A → Bool) (change : A → A) (xs : List A) (x : A)
    → IsIn x xs → IsIn x (at_first test change xs) ⊎ IsIn (change x) (at_first test change xs)
at_first-back test change [] x i = absurd i
at_first-back test change (y ∷ ys) x (inl e) = by (test y)
  where
    by : (b : Bool) → IsIn x (cond b (change y ∷ ys) (y ∷ at_first test change ys))
        ⊎ IsIn (change x) (cond b (change y ∷ ys) (y ∷ at_first test change ys))
    by true = inr (inl (ap change e))
    by false = inl (inl e)
at_first-back test change (y ∷ ys) x (inr j) = by (test y) (at_first-back test change ys x j)
  where
    by : (b : Bool) → IsIn x (at_first test change ys) ⊎ IsIn (change x) (at_first test change ys)
        → IsIn x (cond b (change y ∷ ys) (y ∷ at_first test change ys))
        ⊎ IsIn (change x) (cond b (change y ∷ ys) (y ∷ at_first test change ys))
    by true h = inl (inr j)
    by false h = ⊎_elim (λ a. inl (inr a)) (λ b. inr (inr b)) h

-- ---- each, and each two, of a changed list

pub each-at_first : {A : Type 0} (P : A → Type 0) (test : A → Bool) (change : A → A) (xs : List A)
    → ((x : A) → P x → P (change x)) → Each P xs → Each P (at_first test change xs)
each-at_first P test change [] f h = tt
each-at_first P test change (x ∷ xs) f h = by (test x) (each-at_first P test change xs f h.1)
  where
    by : (b : Bool) → Each P (at_first test change xs)
        → Each P (cond b (change x ∷ xs) (x ∷ at_first test change xs))
    by true rest = (f x h.0, h.1)
    by false rest = (h.0, rest)

pub each-filter : {A : Type 0} (P : A → Type 0) (test : A → Bool) (xs : List A) → Each P xs
    → Each P (filter test xs)
each-filter P test [] h = tt
each-filter P test (x ∷ xs) h = by (test x) (each-filter P test xs h.1)
  where
    by : (b : Bool) → Each P (filter test xs)
        → Each P (cond b (x ∷ filter test xs) (filter test xs))
    by true rest = (h.0, rest)
    by false rest = rest

pub two-at_first : {A : Type 0} (R : A → A → Type 0) (test : A → Bool) (change : A
    → A) (xs : List A) → ((x y : A) → R x y → R (change x) y) → ((x y : A) → R x y → R x (change y))
    → EachTwo R xs → EachTwo R (at_first test change xs)
two-at_first R test change [] f g h = tt
two-at_first R test change (x ∷ xs) f g h = by (test x) (two-at_first R test change xs f g h.1)
  where
    by : (b : Bool) → EachTwo R (at_first test change xs)
        → EachTwo R (cond b (change x ∷ xs) (x ∷ at_first test change xs))
    by true rest = (each-weaker (R x) (R (change x)) xs (λ y r. f x y r) h.0, h.1)
    by false rest = (each-at_first (R x) test change xs (λ y r. g x y r) h.0, rest)

pub two-filter : {A : Type 0} (R : A → A → Type 0) (test : A → Bool) (xs : List A) → EachTwo R xs
    → EachTwo R (filter test xs)
two-filter R test [] h = tt
two-filter R test (x ∷ xs) h = by (test x) (two-filter R test xs h.1)
  where
    by : (b : Bool) → EachTwo R (filter test xs)
        → EachTwo R (cond b (x ∷ filter test xs) (filter test xs))
    by true rest = (each-filter (R x) test xs h.0, rest)
    by false rest = rest

pub two-pushed : {A : Type 0} (R : A → A → Type 0) (xs : List A) (y : A) → EachTwo R xs
    → Each (λ x. R x y) xs → EachTwo R (xs ++ y ∷ [])
two-pushed R [] y h k = (tt, tt)
two-pushed R (x ∷ xs) y h k = (
  each-append (R x) xs (y ∷ []) h.0 (k.0, tt),
  two-pushed R xs y h.1
      k.1,
)
