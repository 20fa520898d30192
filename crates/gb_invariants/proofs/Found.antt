-- What is found in lists, and in lists of which a member changes, goes or is new.
use Rattle.std.proofs.Common.{Bool, List, None, Option, Some, ap, arith, cond, false, inl, inr, not}
use Rattle.std.proofs.Common.{refl, suc, sym, true, zero, ℕ, ⊎_elim, [], ◌++◌, ◌+◌, ◌<◌, ◌∙◌, ◌∷◌}
use Rattle.std.proofs.Common.{◌≡◌, ◌≤◌, ◌⊎◌}
use Rattle.std.specs.List.{filter, find, list_any}
use Rattle.std.specs.Prelude.{option_map, ◌==◌, ◌||◌}
use Rattle.gb_machine.specs.Lists.{at_first, first_free, in_order, without}
use Rattle.gb_machine.specs.{Bus.Connection, Bus.has_number, Members.IsIn}
use Rattle.gb_invariants.proofs.{Awaiting.not-both, Awaiting.same-some, Outcomes.same-number}

-- ---- what is found

-- none passes where none is found
pub find-none : {A : Type 0} (test : A → Bool) (xs : List A) (x : A) → find test xs ≡ None
    → IsIn x xs → test x ≡ false
find-none test [] x h i = absurd i
find-none test (y ∷ ys) x h i = by (test y) refl h i (find-none test ys x)
  where
    by : (b : Bool) → test y ≡ b → cond b (Some y) (find test ys) ≡ None → IsIn x (y ∷ ys)
        → (find test ys ≡ None → IsIn x ys → test x ≡ false) → test x ≡ false
    by true e h i rec = absurd cc
    by false e h (inl is) rec = ap test is ∙ e
    by false e h (inr j) rec = rec h j

-- what is found where the first that passes is changed
pub find-changed : {A : Type 0} (test : A → Bool) (change : A → A) (xs : List A)
    → ((x : A) → test (change x) ≡ test x)
    → find test (at_first test change xs) ≡ option_map change (find test xs)
find-changed test change [] same = refl
find-changed test change (x ∷ xs) same = by (test x) refl (find-changed test change xs same)
  where
    by : (b : Bool) → test x ≡ b → find test (at_first test change xs) ≡ option_map change
        (find test xs)
        → find test (cond b (change x ∷ xs) (x ∷ at_first test change xs)) ≡ option_map change
        (cond b (Some x) (find test xs))
    by true e rec = ap (λ t. cond t (Some (change x)) (find test xs)) (same x ∙ e)
    by false e rec = ap (λ t. cond t (Some x) (find test (at_first test change xs))) e ∙ rec

-- none is left that passes
pub none-of : {A : Type 0} (test : A → Bool) (xs : List A) → find test (without test xs) ≡ None
none-of test [] = refl
none-of test (x ∷ xs) = by (test x) refl (none-of test xs)
  where
    by : (t : Bool) → test x ≡ t → find test (without test xs) ≡ None
        → find test (cond (not t) (x ∷ without test xs) (without test xs)) ≡ None
    by true e h = h
    by false e h = ap (λ b. cond b (Some x) (find test (without test xs))) e ∙ h

-- where none passes none of some does
pub find-filter : {A : Type 0} (test keep : A → Bool) (xs : List A) → find test xs ≡ None
    → find test (filter keep xs) ≡ None
find-filter test keep [] none = refl
find-filter test keep (x ∷ xs) none =
    by (keep x) (test x) refl none (find-filter test keep xs)
  where
    by : (k t : Bool) → test x ≡ t → cond t (Some x) (find test xs) ≡ None
        → (find test xs ≡ None → find test (filter keep xs) ≡ None)
        → find test (cond k (x ∷ filter keep xs) (filter keep xs)) ≡ None
    by k true e h rec = absurd cc
    by true false e h rec = ap (λ t. cond t (Some x) (find test (filter keep xs))) e ∙ rec h
    by false false e h rec = rec h

-- A member where the first that passes is changed was there, or is that one, changed.
pub in-first : {A : Type 0} (test : A → Bool) (change : A → A) (xs : List A) (x : A)
    → IsIn x (at_first test change xs)
    → IsIn x xs ⊎ ((y : A) × IsIn y xs × (find test xs ≡ Some y) × (x ≡ change y))
in-first test change [] x i = absurd i
in-first {A} test change (y ∷ ys) x i = by (test y) i (in-first test change ys x)
  where
    by : (b : Bool) → IsIn x (cond b (change y ∷ ys) (y ∷ at_first test change ys))
        → (IsIn x (at_first test change ys) → IsIn x ys
        ⊎ ((z : A) × IsIn z ys × (find test ys ≡ Some z) × (x ≡ change z)))
        → IsIn x (y ∷ ys) ⊎ ((z : A) × IsIn z (y ∷ ys) × (cond b (Some y) (find test ys) ≡ Some z)
        × (x ≡ change z))
    by true (inl is) rec = inr (y, inl refl, refl, is)
    by true (inr j) rec = inl (inr j)
    by false (inl is) rec = inl (inl is)
    by false (inr j) rec = ⊎_elim (λ a. inl (inr a)) (λ h. inr (h.0, inr h.1, h.2, h.3)) (rec j)

-- the changed one is there
pub changed-in : {A : Type 0} (test : A → Bool) (change : A → A) (xs : List A) (x : A)
    → find test xs ≡ Some x → IsIn (change x) (at_first test change xs)
changed-in test change [] x h = absurd cc
changed-in test change (y ∷ ys) x h = by (test y) h (changed-in test change ys x)
  where
    by : (b : Bool) → cond b (Some y) (find test ys) ≡ Some x
        → (find test ys ≡ Some x → IsIn (change x) (at_first test change ys))
        → IsIn (change x) (cond b (change y ∷ ys) (y ∷ at_first test change ys))
    by true h rec = inl (ap change (sym (same-some y x h)))
    by false h rec = inr (rec h)

-- a member of a list with one more in its order is it, or was there
pub in-ordered : {A : Type 0} (before : A → A → Bool) (x y : A) (ys : List A)
    → IsIn x (in_order before y ys) → (x ≡ y) ⊎ IsIn x ys
in-ordered before x y [] i = ⊎_elim (λ e. inl e) (λ n. absurd n) i
in-ordered before x y (z ∷ zs) i = by (before y z) i (in-ordered before x y zs)
  where
    by : (b : Bool) → IsIn x (cond b (y ∷ z ∷ zs) (z ∷ in_order before y zs))
        → (IsIn x (in_order before y zs) → (x ≡ y) ⊎ IsIn x zs) → (x ≡ y) ⊎ IsIn x (z ∷ zs)
    by true (inl e) rec = inl e
    by true (inr j) rec = inr j
    by false (inl e) rec = inr (inl e)
    by false (inr j) rec = ⊎_elim (λ e. inl e) (λ k. inr (inr k)) (rec j)

-- what is found where one is new that doesn't pass
pub find-ordered : {A : Type 0} (test : A → Bool) (before : A → A → Bool) (y : A) (xs : List A)
    → test y ≡ false → find test (in_order before y xs) ≡ find test xs
find-ordered test before y [] other = ap (λ t. cond t (Some y) None) other
find-ordered test before y (x ∷ xs) other =
    by (before y x) (find-ordered test before y xs other)
  where
    by : (b : Bool) → find test (in_order before y xs) ≡ find test xs
        → find test (cond b (y ∷ x ∷ xs) (x ∷ in_order before y xs)) ≡ find test (x ∷ xs)
    by true rec = ap (λ t. cond t (Some y) (find test (x ∷ xs))) other
    by false rec = ap (λ o. cond (test x) (Some x) o) rec

-- what is found where one changes that doesn't pass
pub find-aside : {A : Type 0} (test other : A → Bool) (change : A → A) (xs : List A)
    → ((x : A) → other x ≡ true → (test x ≡ false) × (test (change x) ≡ false))
    → find test (at_first other change xs) ≡ find test xs
find-aside test other change [] apart = refl
find-aside test other change (x ∷ xs) apart =
    by (other x) refl (find-aside test other change xs apart)
  where
    by : (b : Bool) → other x ≡ b → find test (at_first other change xs) ≡ find test xs
        → find test (cond b (change x ∷ xs) (x ∷ at_first other change xs)) ≡ find test (x ∷ xs)
    by true e rec =
        let w = apart x e in
        ap (λ t. cond t (Some (change x)) (find test xs)) w.1
        ∙ sym (ap (λ t. cond t (Some x) (find test xs)) w.0)
    by false e rec = ap (λ o. cond (test x) (Some x) o) rec

-- ---- the first free number

-- it is free, and one of those that are tried
pub first_free-is : (taken : ℕ → Bool) (tries n k : ℕ) → first_free taken tries n ≡ Some k
    → (taken k ≡ false) × (n ≤ k) × (k < n + tries)
unfolding first_free
first_free-is taken zero n k h = absurd cc
first_free-is taken (suc tries) n k h = by (taken n) refl h (first_free-is taken tries (n + 1) k)
  where
    by : (b : Bool) → taken n ≡ b → cond b (first_free taken tries (n + 1)) (Some n) ≡ Some k
        → (first_free taken tries (n + 1) ≡ Some k → (taken k ≡ false) × (n + 1 ≤ k)
        × (k < n + 1 + tries)) → (taken k ≡ false) × (n ≤ k) × (k < n + suc tries)
    by true e h rec = let r = rec h in (r.0, omega (arith, r.1), omega (arith, r.2))
    by false e h rec =
        let s = same-some n k h in (ap taken (sym s) ∙ e, omega (arith, s), omega (arith, s))

-- what no member has
pub none-any : {A : Type 0} (test : A → Bool) (xs : List A) (x : A) → list_any test xs ≡ false
    → IsIn x xs → test x ≡ false
none-any test [] x h i = absurd i
none-any test (y ∷ ys) x h i = by (test y) refl h i (none-any test ys x)
  where
    by : (b : Bool) → test y ≡ b → (b || list_any test ys) ≡ false → IsIn x (y ∷ ys)
        → (list_any test ys ≡ false → IsIn x ys → test x ≡ false) → test x ≡ false
    by true e h i rec = absurd cc
    by false e h (inl is) rec = ap test is ∙ e
    by false e h (inr j) rec = rec h j

-- one passes where any does
pub any-in : {A : Type 0} (test : A → Bool) (xs : List A) → list_any test xs ≡ true
    → (x : A) × IsIn x xs × (test x ≡ true)
any-in test [] h = absurd cc
any-in {A} test (y ∷ ys) h = by (test y) refl h (any-in test ys)
  where
    by : (b : Bool) → test y ≡ b → (b || list_any test ys) ≡ true
        → (list_any test ys ≡ true → (x : A) × IsIn x ys × (test x ≡ true))
        → (x : A) × IsIn x (y ∷ ys) × (test x ≡ true)
    by true e h rec = (y, inl refl, e)
    by false e h rec = let w = rec h in (w.0, inr w.1, w.2)

-- what is found stays where others leave
pub find-left : {A : Type 0} (test left : A → Bool) (xs : List A)
    → ((x : A) → test x ≡ true → left x ≡ false) → find test (without left xs) ≡ find test xs
find-left test left [] other = refl
find-left {A} test left (x ∷ xs) other =
    by (test x) refl (left x) refl (find-left test left xs other)
  where
    by : (t : Bool) → test x ≡ t → (u : Bool) → left x ≡ u
        → find test (without left xs) ≡ find test xs
        → find test (cond (not u) (x ∷ without left xs) (without left xs)) ≡ cond t (Some x)
        (find test xs)
    by true e true f h = absurd (not-both (left x) f (other x e))
    by true e false f h = ap (λ b. cond b (Some x) (find test (without left xs))) e
    by false e true f h = h
    by false e false f h = ap (λ b. cond b (Some x) (find test (without left xs))) e ∙ h

-- or one comes behind that doesn't pass
pub find-pushed : {A : Type 0} (test : A → Bool) (xs : List A) (y : A) → test y ≡ false
    → find test (xs ++ y ∷ []) ≡ find test xs
find-pushed test [] y e = ap (λ b. cond b (Some y) None) e
find-pushed test (x ∷ xs) y e = ap (λ o. cond (test x) (Some x) o) (find-pushed test xs y e)

-- ---- connections

-- what is said of the first connection of a number stays, where one changes that keeps it
pub found-first : {A : Type 0} (n : ℕ) (of : Option Connection → A) (k : ℕ)
    (f : Connection → Connection) (cs : List Connection)
    → ((c : Connection) → (f c).number ≡ c.number)
    → ((c : Connection) → IsIn c cs → c.number ≡ k → c.number ≡ n → of (Some (f c)) ≡ of (Some c))
    → of (find (has_number n) (at_first (has_number k) f cs)) ≡ of (find (has_number n) cs)
found-first n of k f [] number keeps = refl
found-first n of k f (x ∷ xs) number keeps =
    by (x.number == k) refl (found-first n of k f xs number (λ c j. keeps c (inr j)))
  where
    here : x.number ≡ k → (t : Bool) → (x.number == n) ≡ t
        → of (cond t (Some (f x)) (find (has_number n) xs))
        ≡ of (cond t (Some x) (find (has_number n) xs))
    here on true e = keeps x (inl refl) on (same-number x.number n e)
    here on false e = refl

    rest : (t : Bool) → of (find (has_number n) (at_first (has_number k) f xs))
        ≡ of (find (has_number n) xs)
        → of (cond t (Some x) (find (has_number n) (at_first (has_number k) f xs)))
        ≡ of (cond t (Some x) (find (has_number n) xs))
    rest true h = refl
    rest false h = h

    by : (t : Bool) → (x.number == k) ≡ t
        → of (find (has_number n) (at_first (has_number k) f xs)) ≡ of (find (has_number n) xs)
        → of (find (has_number n) (cond t (f x ∷ xs) (x ∷ at_first (has_number k) f xs)))
        ≡ of (find (has_number n) (x ∷ xs))
    by true e h =
        ap (λ j. of (cond (j == n) (Some (f x)) (find (has_number n) xs))) (number x)
        ∙ here (same-number x.number k e) (x.number == n) refl
    by false e h = rest (x.number == n) h
