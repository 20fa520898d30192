-- Lists of numbers that rise, with a number more or less.
use Rattle.std.proofs.Common.{◌≡◌, ◌≢◌, ◌<◌, ◌≤◌, ◌-◌, ℕ, zero, suc, ◌⊎◌, inl, inr, Bool, Some}
use Rattle.std.proofs.Common.{Ordering, Less, Equal, Greater, List, [], ◌∷◌, ◌++◌, All, Contains}
use Rattle.std.proofs.Common.{insert, length, get_or, remove, slice_get, cond, not, eqb, ne_eqb}
use Rattle.std.proofs.Common.{Ok, Err, eq-eqb, nat_cmp, refl, sym, ap, ◌∙◌, arith}
use Rattle.std.proofs.lemmas.Bool.{cases_eq, cases_lt}
use Rattle.std.proofs.lemmas.Cmp.{nat_cmp_total}
use Rattle.std.proofs.lemmas.Grind.{get_or_default_zero}
use Rattle.std.proofs.lemmas.List.Edits.{insert_end}
use Rattle.std.proofs.lemmas.List.Elements.{All-from_get_or, All-from_recursion, recursion_from_All}
use Rattle.std.proofs.lemmas.List.Kept.{IsStrictlySortedBy-filter}
use Rattle.std.proofs.lemmas.List.Sorted.{searched}
use Rattle.std.proofs.lemmas.Map.Keys.{below_from_sorted, non_decreasing_from_sorted, sorted_tail}
use Rattle.std.proofs.lemmas.Map.Views.{All-insert_key}
use Rattle.std.proofs.lemmas.Option.{get_or_from_slice_get}
use Rattle.std.specs.BTreeSet.{insert_key}
use Rattle.std.specs.Cmp.{nat_cmp_is}
use Rattle.std.specs.List.Sorted.{IsBinarySearchResult, IsStrictlySortedBy}
use Rattle.std.specs.Ordering.{match_ordering, ordering_reverse}
use Rattle.gb_groups.specs.Groups.{left_out}

-- the first is below those after it
first-below : (m : ℕ) (ns : List ℕ) (k : ℕ) → IsStrictlySortedBy nat_cmp (m ∷ ns) → k < length ns
    → m < get_or ns k 0
first-below m ns k s l = below_from_sorted (m ∷ ns) 0 (suc k) 0 s (omega arith) (omega (arith, l))

-- a number greater than the last is greater than all
pub above-last : (ns : List ℕ) (m n : ℕ) → IsStrictlySortedBy nat_cmp ns
    → slice_get ns (length ns - 1) ≡ Some m → m < n → All (λ k. k < n) ns
above-last ns m n s last less =
    All-from_get_or (λ k. k < n) ns 0 (λ k l. by k l (cases_eq k (length ns - 1)))
  where
    at : get_or ns (length ns - 1) 0 ≡ m
    at = get_or_from_slice_get ns (length ns - 1) m 0 last

    by : (k : ℕ) → k < length ns → (k ≡ length ns - 1) ⊎ (k ≢ length ns - 1) → get_or ns k 0 < n
    by k l (inl e) = omega (arith, ap (λ j. get_or ns j 0) e, at, less)
    by k l (inr ne) =
        let before =
        below_from_sorted ns k (length ns - 1) 0 s (omega (arith, l, ne)) (omega (arith, l)) in
        omega (arith, before, at, less)

-- ---- a number more

-- what is done at the first of a list
abbrev step : ℕ → ℕ → List ℕ → Ordering → List ℕ
step n m ns o = match_ordering o (n ∷ m ∷ ns) (m ∷ ns) (m ∷ insert_key nat_cmp ns n)

-- a number that is greater than the first goes behind it
behind : (n m : ℕ) (ns : List ℕ) → m < n
    → insert_key nat_cmp (m ∷ ns) n ≡ m ∷ insert_key nat_cmp ns n
behind n m ns l = ap (step n m ns) (sym (nat_cmp_is n m Greater l))

-- a number that parts a list goes to where it parts it
pub inserted-at : (ns : List ℕ) (i n : ℕ) → i ≤ length ns → ((k : ℕ) → k < i → get_or ns k 0 < n)
    → ((k : ℕ) → i ≤ k → k < length ns → n < get_or ns k 0)
    → insert_key nat_cmp ns n ≡ insert ns i n
inserted-at [] zero n within below above = refl
inserted-at [] (suc i) n within below above = absurd (omega (arith, within))
inserted-at (m ∷ ns) zero n within below above =
    ap (step n m ns) (sym (nat_cmp_is n m Less (above 0 (omega arith) (omega arith))))
inserted-at (m ∷ ns) (suc i) n within below above =
    behind n m ns (below 0 (omega arith))
    ∙ ap (λ l. m ∷ l) (inserted-at ns i n (omega (arith, within))
    (λ k l. below (suc k) (omega (arith, l)))
    (λ k a b. above (suc k) (omega (arith, a)) (omega (arith, b))))

-- a number greater than all goes to the end
pub inserted-last : (ns : List ℕ) (n : ℕ) → All (λ k. k < n) ns
    → insert_key nat_cmp ns n ≡ ns ++ n ∷ []
inserted-last ns n above =
    inserted-at ns (length ns) n (omega arith) (λ k l. above k 0 l)
    (λ k a b. absurd (omega (arith, a, b)))
    ∙ insert_end ns n

-- a number that is there isn't put in again
pub inserted-there : (ns : List ℕ) (i n : ℕ) → IsStrictlySortedBy nat_cmp ns → i < length ns
    → get_or ns i 0 ≡ n → insert_key nat_cmp ns n ≡ ns
inserted-there [] i n s within e = absurd (omega (arith, within))
inserted-there (m ∷ ns) zero n s within e = ap (step n m ns) (sym (nat_cmp_is n m Equal (sym e)))
inserted-there (m ∷ ns) (suc i) n s within e =
    behind n m ns (let l = first-below m ns i s (omega (arith, within)) in omega (arith, l, e))
    ∙ ap (λ l. m ∷ l)
    (inserted-there ns i n (sorted_tail nat_cmp m ns s) (omega (arith, within)) e)

-- a list that rises still does
pub inserted-rises : (ns : List ℕ) (n : ℕ) → IsStrictlySortedBy nat_cmp ns
    → IsStrictlySortedBy nat_cmp (insert_key nat_cmp ns n)
unfolding IsStrictlySortedBy
inserted-rises [] n s = (tt, tt)
inserted-rises (m ∷ ns) n s = by (nat_cmp n m) refl (inserted-rises ns n s.1)
  where
    by : (o : Ordering) → nat_cmp n m ≡ o → IsStrictlySortedBy nat_cmp (insert_key nat_cmp ns n)
        → IsStrictlySortedBy nat_cmp (step n m ns o)
    by Less e later =
        let all = All-from_recursion (λ k. nat_cmp m k ≡ Less) ns s.0 in (
          (
            e,
            recursion_from_All (λ k. nat_cmp n k ≡ Less) ns
                (λ k d l. nat_cmp_total.trans n m (get_or ns k d) e (all k d l)),
          ),
          s,
        )
    by Equal e later = s
    by Greater e later = (
      recursion_from_All (λ k. nat_cmp m k ≡ Less) (insert_key nat_cmp ns n)
          (All-insert_key nat_cmp n (λ k. nat_cmp m k ≡ Less) ns
          (All-from_recursion (λ k. nat_cmp m k ≡ Less) ns s.0)
          (nat_cmp_total.antisymm m n ∙ ap ordering_reverse e)),
      later,
    )

-- ---- a number less

-- what is left where the first is the number or isn't
abbrev rest : ℕ → ℕ → List ℕ → Bool → List ℕ
rest n m ns b = cond (not b) (m ∷ left_out n ns) (left_out n ns)

-- a number that isn't there leaves all
pub left-all : (ns : List ℕ) (n : ℕ) → ((k : ℕ) → k < length ns → get_or ns k 0 ≢ n)
    → left_out n ns ≡ ns
left-all [] n none = refl
left-all (m ∷ ns) n none =
    ap (rest n m ns) (ne_eqb m n (none 0 (omega arith)))
    ∙ ap (λ l. m ∷ l) (left-all ns n (λ k l. none (suc k) (omega (arith, l))))

-- a number that is there leaves those before and after it
pub left-at : (ns : List ℕ) (i n : ℕ) → IsStrictlySortedBy nat_cmp ns → i < length ns
    → get_or ns i 0 ≡ n → left_out n ns ≡ remove ns i
left-at [] i n s within e = absurd (omega (arith, within))
left-at (m ∷ ns) zero n s within e =
    ap (rest n m ns) (eq-eqb m n e)
    ∙ left-all ns n (λ k l f. absurd (omega (arith, first-below m ns k s l, e, f)))
left-at (m ∷ ns) (suc i) n s within e =
    ap (rest n m ns)
    (ne_eqb m n (λ f. absurd (omega (arith, first-below m ns i s (omega (arith, within)), e, f))))
    ∙ ap (λ l. m ∷ l) (left-at ns i n (sorted_tail nat_cmp m ns s) (omega (arith, within)) e)

-- a list that rises still does
pub left-rises : (ns : List ℕ) (n : ℕ) → IsStrictlySortedBy nat_cmp ns
    → IsStrictlySortedBy nat_cmp (left_out n ns)
left-rises ns n s = IsStrictlySortedBy-filter nat_cmp (λ m. not (eqb m n)) ns s

-- ---- what a search says

-- a number is there, at this place
pub record IsAt (ns : List ℕ) (i n : ℕ) : Type 0 where
  pub within : i < length ns
  pub is : get_or ns i 0 ≡ n

-- a number isn't there, and parts the list here
pub record Parts (ns : List ℕ) (i n : ℕ) : Type 0 where
  pub within : i ≤ length ns
  pub below : (k : ℕ) → k < i → get_or ns k 0 < n
  pub above : (k : ℕ) → i ≤ k → k < length ns → n < get_or ns k 0

pub found-at : (ns : List ℕ) (i n : ℕ) → IsStrictlySortedBy nat_cmp ns
    → IsBinarySearchResult (λ m. nat_cmp m n) ns (Ok i) → IsAt ns i n
found-at ns i n s h =
    let f = searched ns n (Ok i) h (λ j k a b. non_decreasing_from_sorted ns s j k 0 a b) in
    record { within = f.0; is = f.1 }

pub parted-at : (ns : List ℕ) (i n : ℕ) → IsStrictlySortedBy nat_cmp ns
    → IsBinarySearchResult (λ m. nat_cmp m n) ns (Err i) → Parts ns i n
parted-at ns i n s h =
    let f = searched ns n (Err i) h (λ j k a b. non_decreasing_from_sorted ns s j k 0 a b) in
    record { within = f.0; below = f.1; above = f.2 }

-- a number that parts a list isn't in it
pub parts-not : (ns : List ℕ) (i n : ℕ) → Parts ns i n → (k : ℕ) → k < length ns
    → get_or ns k 0 ≢ n
parts-not ns i n p k l e = by (cases_lt k i)
  where
    by : (k < i) ⊎ (i ≤ k) → ⊥
    by (inl less) = absurd (omega (arith, p.below k less, e))
    by (inr more) = absurd (omega (arith, p.above k more l, e))

pub parts-lacks : (ns : List ℕ) (i n : ℕ) → Parts ns i n → Contains ns n → ⊥
parts-lacks ns i n p has =
    parts-not ns i n p has.0 has.1 (sym (get_or_default_zero ns has.0 n has.1) ∙ has.2)
