-- Lists of lines by requester.
use Rattle.std.proofs.Common.{◌≡◌, ◌≢◌, ℕ, zero, suc, ◌+◌, ◌<◌, ◌≤◌, Bool, true, false, Some, None}
use Rattle.std.proofs.Common.{List, [], ◌∷◌, length, refl, sym, ap, ◌∙◌, add-one, arith, subst}
use Rattle.std.proofs.Common.{drop}
use Rattle.std.proofs.Math.ListN.{get_or}
use Rattle.std.proofs.lemmas.Bool.Decides.{nat_tests}
use Rattle.std.proofs.lemmas.Option.{slice_get_past, slice_get_read, slice_get_within}
use Rattle.std.specs.List.{filter, slice_get, slice_set}
use Rattle.std.specs.Prelude.{◌==◌, if◌then◌else◌, map}
use Rattle.gb_base.specs.declared.parts.Asked.{Asked}
use Rattle.gb_desk.proofs.SlotLists.{get_set_other, get_set_same}
use Rattle.gb_formats.specs.Orders.{Merged, first_of, is_by, times_of, who_asked}
use Rattle.gb_formats.specs.Orders.{without_first}
use Rattle.gb_share.specs.Placing.{Pops, left_by, left_of, marked}
use Rattle.gb_share.specs.declared.requester.Requester.{Requester}

-- ---- this requester or another one

pub by_who : (P : ℕ → Type 0) (who : ℕ) → P who → ((r : ℕ) → r ≢ who → P r) → (r : ℕ) → P r
by_who P who same other r = go (who == r) refl
  where
    go : (b : Bool) → (who == r) ≡ b → P r
    go true is = (let at : who ≡ r = grind (arith, nat_tests) in subst P at same)
    go false is = other r (λ at. grind (arith, nat_tests))

pub same_who : (who : ℕ) → (who == who) ≡ true
same_who who = grind (arith, nat_tests)

pub other_who : (who r : ℕ) → r ≢ who → (who == r) ≡ false
other_who who r apart = grind (arith, nat_tests)

-- ---- the first line of a requester

pub first_is : (who : ℕ) (asked : List Asked) (a : Asked) (more : List Asked)
    → filter (is_by who) asked ≡ a ∷ more
    → (first_of who asked ≡ Some a) × (filter (is_by who) (without_first who asked) ≡ more)
first_is who [] a more is = absurd cc
first_is who (x ∷ xs) a more is = go (is_by who x) refl (λ i. first_is who xs a more i) is
  where
    go : (b : Bool) → is_by who x ≡ b
        → (filter (is_by who) xs ≡ a ∷ more → (first_of who xs ≡ Some a)
        × (filter (is_by who) (without_first who xs) ≡ more))
        → (if b then x ∷ filter (is_by who) xs else filter (is_by who) xs) ≡ a ∷ more
        → (first_of who (x ∷ xs) ≡ Some a)
        × (filter (is_by who) (without_first who (x ∷ xs)) ≡ more)
    go true mine rest is = (rw mine cc, rw mine cc)
    go false mine rest is = (rw mine (rest is).0, rw (mine, mine) (rest is).1)

pub others_stay : (who r : ℕ) (asked : List Asked) → r ≢ who
    → filter (is_by r) (without_first who asked) ≡ filter (is_by r) asked
others_stay who r [] apart = refl
others_stay who r (x ∷ xs) apart = go (is_by who x) refl (others_stay who r xs apart)
  where
    go : (b : Bool) → is_by who x ≡ b
        → filter (is_by r) (without_first who xs) ≡ filter (is_by r) xs
        → filter (is_by r) (if b then xs else x ∷ without_first who xs)
        ≡ filter (is_by r) (x ∷ xs)
    go true mine later =
        let other : is_by r x ≡ false = grind (arith, nat_tests) in rw other refl
    go false mine later =
        ap (λ l. if is_by r x then x ∷ l else l) later

-- how many lines a requester has
pub times_asked : (r : ℕ) (asked : List Asked)
    → times_of r (who_asked asked) ≡ length (filter (is_by r) asked)
times_asked r [] = refl
times_asked r (x ∷ xs) = go (is_by r x) (times_asked r xs)
  where
    go : (b : Bool) → times_of r (who_asked xs) ≡ length (filter (is_by r) xs)
        → (if b then 1 else 0) + times_of r (who_asked xs)
        ≡ length (if b then x ∷ filter (is_by r) xs else filter (is_by r) xs)
    go true later = omega arith
    go false later = omega arith

-- ---- lines with their marks

pub marked_next : (ls : List Asked) (fs : List Bool) (n : ℕ) (a : Asked) (f : Bool)
    → slice_get ls n ≡ Some a → slice_get fs n ≡ Some f
    → drop n (marked ls fs) ≡ (a, f) ∷ drop (suc n) (marked ls fs)
marked_next [] fs n a f line mark = absurd cc
marked_next (x ∷ xs) [] n a f line mark = absurd cc
marked_next (x ∷ xs) (g ∷ gs) zero a f line mark =
    let one : x ≡ a = cc in
    let two : g ≡ f = cc in rw (one, two) refl
marked_next (x ∷ xs) (g ∷ gs) (suc n) a f line mark = marked_next xs gs n a f line mark

pub marked_none : (ls : List Asked) (fs : List Bool) (n : ℕ) → slice_get ls n ≡ None
    → drop n (marked ls fs) ≡ []
marked_none [] fs zero is = refl
marked_none [] fs (suc n) is = refl
marked_none (x ∷ xs) [] zero is = refl
marked_none (x ∷ xs) [] (suc n) is = refl
marked_none (x ∷ xs) (g ∷ gs) zero is = absurd cc
marked_none (x ∷ xs) (g ∷ gs) (suc n) is = marked_none xs gs n is

pub marks_none : (ls : List Asked) (fs : List Bool) (n : ℕ) → slice_get fs n ≡ None
    → drop n (marked ls fs) ≡ []
marks_none [] fs zero is = refl
marks_none [] fs (suc n) is = refl
marks_none (x ∷ xs) [] zero is = refl
marks_none (x ∷ xs) [] (suc n) is = refl
marks_none (x ∷ xs) (g ∷ gs) zero is = absurd cc
marks_none (x ∷ xs) (g ∷ gs) (suc n) is = marks_none xs gs n is

pub marked_lines : (ls : List Asked) (fs : List Bool) → length fs ≡ length ls
    → map (λ (m : Merged). m.0) (marked ls fs) ≡ ls
marked_lines [] fs long = refl
marked_lines (x ∷ xs) [] long = absurd (omega arith)
marked_lines (x ∷ xs) (g ∷ gs) long = ap (λ l. x ∷ l) (marked_lines xs gs (omega arith))

pub none_line : (xs : List Requester) (ns : List ℕ) (r : ℕ) (x : Requester) (n : ℕ)
    → slice_get xs r ≡ Some x → slice_get ns r ≡ Some n → slice_get x.lines n ≡ None
    → left_of xs ns r ≡ []
none_line xs ns r x n there here is =
    rw (there, here) (marked_none x.lines x.full n is)

pub none_mark : (xs : List Requester) (ns : List ℕ) (r : ℕ) (x : Requester) (n : ℕ)
    → slice_get xs r ≡ Some x → slice_get ns r ≡ Some n → slice_get x.full n ≡ None
    → left_of xs ns r ≡ []
none_mark xs ns r x n there here is = rw (there, here) (marks_none x.lines x.full n is)

-- ---- the next line was placed

pub next_left : (xs : List Requester) (ns : List ℕ) (r : ℕ) (x : Requester) (n : ℕ) (a : Asked)
    (f : Bool) → slice_get xs r ≡ Some x → slice_get ns r ≡ Some n → slice_get x.lines n ≡ Some a
    → slice_get x.full n ≡ Some f
    → left_of xs ns r ≡ (a, f) ∷ drop (suc n) (marked x.lines x.full)
next_left xs ns r x n a f there here line mark =
    rw (there, here) (marked_next x.lines x.full n a f line mark)

pub popped : (xs ys : List Requester) (ns ms : List ℕ) (r : ℕ) (x : Requester) (n : ℕ) (a : Asked)
    (f : Bool) → slice_get xs r ≡ Some x → slice_get ns r ≡ Some n → slice_get x.lines n ≡ Some a
    → slice_get x.full n ≡ Some f → ys ≡ xs → ms ≡ slice_set ns r (n + 1)
    → Pops r (a, f) (left_of xs ns) (left_of ys ms)
popped xs ys ns ms r x n a f there here line mark same set = record {
  here = next_left xs ns r x n a f there here line mark
      ∙ ap (λ l. (a, f) ∷ l) (sym (ap (λ (zs : List Requester). left_of zs ms r) same
      ∙ (ap (λ (ks : List ℕ). left_of xs ks r) set
      ∙ (ap (λ o. left_by o (slice_get (slice_set ns r (n + 1)) r)) there
      ∙ (ap (λ o. left_by (Some x) o) (get_set_same ns r (n + 1) (slice_get_within ns r n here))
      ∙ ap (λ k. drop k (marked x.lines x.full)) (add-one n))))));
  there = λ s apart. ap (λ (zs : List Requester). left_of zs ms s) same
      ∙ (ap (λ (ks : List ℕ). left_of xs ks s) set
      ∙ ap (λ o. left_by (slice_get xs s) o) (get_set_other ns r s (n + 1) apart));
}

-- a member that was read from a list that is another one
pub at_of : {A : Type 0} (xs ys : List A) (i j : ℕ) (x : A) → ys ≡ xs → j ≡ i → j < length ys
    → x ≡ get_or ys j x → slice_get xs i ≡ Some x
at_of {A} xs ys i j x list place low is =
    subst (λ k. slice_get xs k ≡ Some x) place
    (subst (λ (zs : List A). slice_get zs j ≡ Some x) list (slice_get_read ys _ j x refl low is))

pub past_of : {A : Type 0} (xs ys : List A) (i : ℕ) → ys ≡ xs → length ys ≤ i
    → slice_get xs i ≡ None
past_of {A} xs ys i list past =
    subst (λ (zs : List A). slice_get zs i ≡ None) list (slice_get_past ys i past)

drop_there : {A : Type 0} (xs : List A) (i : ℕ) (x : A) → slice_get xs i ≡ Some x
    → drop i xs ≡ x ∷ drop (suc i) xs
drop_there [] i x at = absurd cc
drop_there (y ∷ ys) zero x at = (let same : y ≡ x = cc in ap (λ z. z ∷ ys) same)
drop_there (y ∷ ys) (suc i) x at = drop_there ys i x at

-- what is left behind a member that was read
pub drop_read : {A : Type 0} (xs : List A) (i : ℕ) (x : A) → i < length xs → x ≡ get_or xs i x
    → drop i xs ≡ x ∷ drop (i + 1) xs
drop_read xs i x low is =
    drop_there xs i x (slice_get_read xs (length xs) i x refl low is)
    ∙ ap (λ k. x ∷ drop k xs) (sym (add-one i))
