-- Whose the deadlines are that came, by what the slots say.
use Rattle.std.proofs.Common.{◌≡◌, ◌≢◌, ◌<◌, ◌≤◌, ℕ, ◌+◌, Bool, true, false, ◌&&◌, ◌||◌, cond}
use Rattle.std.proofs.Common.{◌⊎◌, inl, inr, ⊎_elim, Option, Some, None, List, [], ◌∷◌, ◌++◌}
use Rattle.std.proofs.Common.{Less, Equal, Greater, eqb, leb, refl, sym, ap, subst, ◌∙◌, arith}
use Rattle.std.proofs.lemmas.Bool.{and_parts, and_right, both_ways, cases_eq, cases_lt, eq-eqb}
use Rattle.std.proofs.lemmas.Bool.{eqb-true, false_from_ne_true, le-leb, leb-true, ne_eqb}
use Rattle.std.proofs.lemmas.Bool.{or_cases, or_left, or_right}
use Rattle.std.proofs.lemmas.Bool.Decides.{nat_tests}
use Rattle.std.proofs.lemmas.List.Folds.{list_any-append}
use Rattle.std.proofs.ByRecursion.{All-push}
use Rattle.std.specs.Option.{is_none}
use Rattle.std.specs.BTreeMap.{is_at}
use Rattle.std.specs.BTreeSet.{insert_key}
use Rattle.std.specs.List.{AllByRecursion, list_any}
use Rattle.std.specs.List.Sorted.{IsStrictlySortedBy}
use Rattle.std.specs.Ordering.{is_eq, nat_cmp, ordering_then}
use Rattle.std.specs.declared.cmp.Ordering.{Ordering}
use Rattle.std.specs.declared.cmp.Reverse.{Reverse}
use Rattle.slab.specs.Slab.{Slab}
use Rattle.gb_bus.proofs.SlotDues.{any-due, due-keys, earliest-first, finds-same, least-due}
use Rattle.gb_bus.proofs.SlotDues.{least-from, none-early, put-last, stands-due, stands-put}
use Rattle.gb_bus.proofs.SlotKept.{made-timed}
use Rattle.gb_bus.proofs.SlotMaps.{both-same, found, key-same, latest, same-some}
use Rattle.gb_bus.proofs.SlotTimes.{none-waits}
use Rattle.gb_bus.specs.Keeping.{AreTimed, IsKept, Places, by_deadline, by_latest, came_early}
use Rattle.gb_bus.specs.Keeping.{deadline_of, has_deadline, kept_in, time_of}
use Rattle.gb_bus.specs.Slots.{SlotsKept, is_due, slot_at}
use Rattle.gb_bus.specs.declared.deadlines.Deadlines.{Deadlines}
use Rattle.gb_bus.specs.declared.slots.Slot.{Slot}
use Rattle.gb_bus.specs.declared.tally.Tally.{Tally}
use Rattle.gb_bus.specs.Listing.{AreThose, FindsLeast, Rises, stands_in}
use Rattle.gb_invariants.proofs.Lists.{each-append, each-weaker, two-pushed}
use Rattle.gb_machine.specs.Members.{Each}
use Rattle.gb_ops.proofs.Listing.{equal-key}

-- ---- whose deadlines they are

-- a deadline that came stands there with the number
due-there : (now n : ℕ) (ks : List (ℕ × ℕ)) → any-due now n ks ≡ true
    → (c : ℕ) × (leb c now ≡ true) × (list_any (is_at (by_deadline (c, n))) ks ≡ true)
due-there now n [] e = absurd (cc e)
due-there now n (k ∷ ks) e =
    ⊎_elim
    (λ here. let parts = and_parts (leb k.0 now) (eqb k.1 n) here in (
      k.0,
      parts.0,
      or_left (is_at (by_deadline (k.0, n)) k) (list_any (is_at (by_deadline (k.0, n))) ks)
          (both-same (nat_cmp k.0 k.0) (nat_cmp n k.1) (key-same k.0 k.0 refl)
          (key-same n k.1 (sym (eqb-true k.1 n parts.1)))),
    ))
    (λ later. let there = due-there now n ks later in (
      there.0,
      there.1,
      or_right (is_at (by_deadline (there.0, n)) k)
          (list_any (is_at (by_deadline (there.0, n))) ks) there.2,
    ))
    (or_cases (leb k.0 now && eqb k.1 n) (any-due now n ks) e)

both-equal : (a b : Ordering) → is_eq (ordering_then a b) ≡ true
    → (is_eq a ≡ true) × (is_eq b ≡ true)
both-equal Less b e = absurd (cc e)
both-equal Equal b e = (refl, e)
both-equal Greater b e = absurd (cc e)

has-due : (now n c : ℕ) (ks : List (ℕ × ℕ)) → leb c now ≡ true
    → list_any (is_at (by_deadline (c, n))) ks ≡ true → any-due now n ks ≡ true
has-due now n c [] came e = absurd (cc e)
has-due now n c (k ∷ ks) came e =
    ⊎_elim
    (λ here. let parts = both-equal (nat_cmp c k.0) (nat_cmp n k.1) here in
    or_left (leb k.0 now && eqb k.1 n) (any-due now n ks)
    (ap (λ b. b && eqb k.1 n) (ap (λ d. leb d now) (sym (equal-key c k.0 parts.0)) ∙ came)
    ∙ eq-eqb k.1 n (sym (equal-key n k.1 parts.1))))
    (λ later. or_right (leb k.0 now && eqb k.1 n) (any-due now n ks)
    (has-due now n c ks came later))
    (or_cases (is_at (by_deadline (c, n)) k) (list_any (is_at (by_deadline (c, n))) ks) e)

-- ---- the earliest first

sorted-push : (ks : List (ℕ × ℕ)) (k : ℕ × ℕ) → IsStrictlySortedBy by_deadline ks
    → AllByRecursion (λ y. by_deadline y k ≡ Less) ks
    → IsStrictlySortedBy by_deadline (ks ++ k ∷ [])
unfolding IsStrictlySortedBy
sorted-push [] k s all = (tt, tt)
sorted-push (x ∷ ks) k s all = (
  All-push (λ y. by_deadline x y ≡ Less) ks k s.0 all.0,
  sorted-push ks k s.1 all.1,
)

all-before : (r : Reverse (ℕ × ℕ)) (rs : List (Reverse (ℕ × ℕ)))
    → AllByRecursion (λ y. by_latest r y ≡ Less) rs
    → AllByRecursion (λ y. by_deadline y r.0 ≡ Less) (earliest-first rs)
all-before r [] all = tt
all-before r (x ∷ rs) all =
    All-push (λ y. by_deadline y r.0 ≡ Less) (earliest-first rs) x.0 (all-before r rs all.1) all.0

rise : (rs : List (Reverse (ℕ × ℕ))) → IsStrictlySortedBy by_latest rs
    → IsStrictlySortedBy by_deadline (earliest-first rs)
unfolding IsStrictlySortedBy
rise [] s = tt
rise (r ∷ rs) s = sorted-push (earliest-first rs) r.0 (rise rs s.1) (all-before r rs s.0)

both-eq : (a b : Ordering) → is_eq (ordering_then a b) ≡ (is_eq a && is_eq b)
both-eq Less b = refl
both-eq Equal b = refl
both-eq Greater b = refl

turned : (a b : ℕ) → is_eq (nat_cmp a b) ≡ is_eq (nat_cmp b a)
turned a b = grind (arith, nat_tests)

same-at : (x : ℕ × ℕ) (r : Reverse (ℕ × ℕ)) → is_at (by_deadline x) r.0 ≡ is_eq (by_deadline r.0 x)
same-at x r =
    both-eq (nat_cmp x.0 r.0.0) (nat_cmp x.1 r.0.1)
    ∙ ap (λ b. b && is_eq (nat_cmp x.1 r.0.1)) (turned x.0 r.0.0)
    ∙ ap (λ b. is_eq (nat_cmp r.0.0 x.0) && b) (turned x.1 r.0.1)
    ∙ sym (both-eq (nat_cmp r.0.0 x.0) (nat_cmp r.0.1 x.1))

same-any : (c n : ℕ) (rs : List (Reverse (ℕ × ℕ)))
    → list_any (is_at (by_deadline (c, n))) (earliest-first rs)
    ≡ list_any (is_at (by_latest (latest c n))) rs
same-any c n [] = refl
same-any c n (r ∷ rs) =
    list_any-append (is_at (by_deadline (c, n))) (earliest-first rs) (r.0 ∷ [])
    ∙ swap (list_any (is_at (by_deadline (c, n))) (earliest-first rs))
    (is_at (by_deadline (c, n)) r.0)
    ∙ ap (λ b. b || list_any (is_at (by_deadline (c, n))) (earliest-first rs)) (same-at (c, n) r)
    ∙ ap (λ b. is_at (by_latest (latest c n)) r || b) (same-any c n rs)
  where
    swap : (a b : Bool) → (a || (b || false)) ≡ (b || a)
    swap true true = refl
    swap true false = refl
    swap false true = refl
    swap false false = refl

-- ---- the deadlines of all

-- a deadline came
abbrev pub comes : ℕ → Option ℕ → Bool
comes now None = false
comes now (Some c) = leb c now

-- those below a number that came are found, and of the others those that are early
pub record Walked (times : ℕ → Option ℕ) (d : Deadlines) (now i : ℕ) (ns : List ℕ) : Type 0 where
  pub below : (n : ℕ) → n < i → stands_in n ns ≡ comes now (times n)
  pub above : (n : ℕ) → i ≤ n → stands_in n ns ≡ any-due now n (earliest-first d.early.keys)

-- the same, where those that are found are in order and below the number
pub record InOrder (times : ℕ → Option ℕ) (d : Deadlines) (now i : ℕ) (ns : List ℕ) : Type 0 where
  pub walked : Walked times d now i ns
  pub low : Each (λ n. n < i) ns
  pub rises : Rises ns

stays-below : (i : ℕ) (ns : List ℕ) → Each (λ n. n < i) ns → Each (λ n. n < i + 1) ns
stays-below i ns low =
    each-weaker (λ n. n < i) (λ n. n < i + 1) ns (λ n under. omega (arith, under)) low

module _ (times : ℕ → Option ℕ) (d : Deadlines) (t : Tally) (now : ℕ) (k : AreTimed times d t) where
  abbrev ks : List (ℕ × ℕ)
  ks = earliest-first d.early.keys

  early-comes : (n : ℕ) → any-due now n ks ≡ true → comes now (times n) ≡ true
  early-comes n e =
      let there = due-there now n ks e in
      ap (comes now) (k.early there.0 n (sym (same-any there.0 n d.early.keys) ∙ there.2))
      ∙ there.1

  not-early : (n : ℕ) → comes now (times n) ≡ false → any-due now n ks ≡ false
  not-early n none =
      false_from_ne_true (any-due now n ks)
      (λ e. both_ways (comes now (times n)) none (early-comes n e))

  before-first : (n : ℕ) → n < d.first → times n ≡ None
  before-first n low = by (times n) refl
    where
      by : (o : Option ℕ) → times n ≡ o → o ≡ None
      by None e = refl
      by (Some c) e = let up = k.least n c e in absurd (omega (arith, up, low))

  -- from one on whose deadline didn't come, those that came are early
  late-same : (i c : ℕ) → times i ≡ Some c → now < c → (n : ℕ) → i ≤ n
      → any-due now n ks ≡ comes now (times n)
  late-same i c at late n up = by (comes now (times n)) refl
    where
      early : (x : ℕ) → times n ≡ Some x → x ≤ now → (b : Bool)
          → has_deadline d.early (x, n) ≡ b → any-due now n ks ≡ true
      early x e came true h =
          has-due now n x ks (le-leb x now came) (same-any x n d.early.keys ∙ h)
      early x e came false h = absurd (past (cases_eq n i))
        where
          past : (n ≡ i) ⊎ (n ≡ i → ⊥) → ⊥
          past (inl s) =
              let one = same-some x c (sym e ∙ ap times s ∙ at) in
              absurd (omega (arith, one, came, late))
          past (inr ne) =
              let low : i < n = omega (arith, up, ne) in
              let rises = k.rise i n c x low at e h in absurd (omega (arith, rises, came, late))

      came-at : (o : Option ℕ) → times n ≡ o → comes now o ≡ true → any-due now n ks ≡ true
      came-at None e h = absurd (cc h)
      came-at (Some x) e h =
          early x e (leb-true x now h) (has_deadline d.early (x, n)) refl

      by : (b : Bool) → comes now (times n) ≡ b → any-due now n ks ≡ b
      by true h = came-at (times n) refl h
      by false h = not-early n h

  -- ---- the walk

  pub walk-begins : (ns : List ℕ) → IsStrictlySortedBy by_latest d.early.keys
      → ns ≡ due-keys now [] ks → Walked times d now d.first ns
  walk-begins ns sorted is = record {
    below = λ n low.
        let none = ap (comes now) (before-first n low) in
        stands n ∙ not-early n none ∙ sym none;
    above = λ n up. stands n;
  }
    where
      stands : (n : ℕ) → stands_in n ns ≡ any-due now n ks
      stands n = ap (stands_in n) is ∙ stands-due now n [] ks (rise d.early.keys sorted)

  pub walk-passes : (i : ℕ) (ns : List ℕ) → times i ≡ None → Walked times d now i ns
      → Walked times d now (i + 1) ns
  walk-passes i ns none w = record {
    below = λ n low. under n low (cases_eq n i);
    above = λ n up. w.above n (omega (arith, up));
  }
    where
      under : (n : ℕ) → n < i + 1 → (n ≡ i) ⊎ (n ≡ i → ⊥) → stands_in n ns ≡ comes now (times n)
      under n low (inl s) =
          let no = ap (comes now) (ap times s ∙ none) in
          w.above n (omega (arith, s)) ∙ not-early n no ∙ sym no
      under n low (inr ne) = w.below n (omega (arith, low, ne))

  pub walk-finds : (i c : ℕ) (ns : List ℕ) → times i ≡ Some c → c ≤ now → Walked times d now i ns
      → Walked times d now (i + 1) (insert_key nat_cmp ns i)
  walk-finds i c ns at came w = record {
    below = λ n low. under n low (cases_eq n i);
    above = λ n up.
        other n (λ s. absurd (omega (arith, up, s))) ∙ w.above n (omega (arith, up));
  }
    where
      other : (n : ℕ) → n ≢ i → stands_in n (insert_key nat_cmp ns i) ≡ stands_in n ns
      other n ne =
          stands-put n i ns
          ∙ ap (λ b. b || stands_in n ns) (ne_eqb i n (λ s. ne (sym s)))

      under : (n : ℕ) → n < i + 1 → (n ≡ i) ⊎ (n ≡ i → ⊥)
          → stands_in n (insert_key nat_cmp ns i) ≡ comes now (times n)
      under n low (inl s) =
          stands-put n i ns
          ∙ ap (λ b. b || stands_in n ns) (eq-eqb i n (sym s))
          ∙ sym (ap (comes now) (ap times s ∙ at) ∙ le-leb c now came)
      under n low (inr ne) = other n ne ∙ w.below n (omega (arith, low, ne))

  pub walk-stops : (i c : ℕ) (ns : List ℕ) → times i ≡ Some c → now < c → Walked times d now i ns
      → (n : ℕ) → stands_in n ns ≡ comes now (times n)
  walk-stops i c ns at late w n = by (cases_lt n i)
    where
      by : (n < i) ⊎ (i ≤ n) → stands_in n ns ≡ comes now (times n)
      by (inl low) = w.below n low
      by (inr up) = w.above n up ∙ late-same i c at late n up

  pub walk-ends : (i : ℕ) (ns : List ℕ) → ((n : ℕ) → i ≤ n → times n ≡ None)
      → Walked times d now i ns → (n : ℕ) → stands_in n ns ≡ comes now (times n)
  walk-ends i ns none w n = by (cases_lt n i)
    where
      by : (n < i) ⊎ (i ≤ n) → stands_in n ns ≡ comes now (times n)
      by (inl low) = w.below n low
      by (inr up) =
          let no = ap (comes now) (none n up) in w.above n up ∙ not-early n no ∙ sym no

  -- ---- the walk where no early one came

  pub order-begins : came_early now d.early.keys ≡ false → InOrder times d now d.first []
  order-begins none = record {
    walked = record {
      below = λ n low. sym (ap (comes now) (before-first n low));
      above = λ n up. sym (none-early now n d.early.keys none);
    };
    low = tt;
    rises = tt;
  }

  pub order-passes : (i : ℕ) (ns : List ℕ) → times i ≡ None → InOrder times d now i ns
      → InOrder times d now (i + 1) ns
  order-passes i ns none w = record {
    walked = walk-passes i ns none w.walked;
    low = stays-below i ns w.low;
    rises = w.rises;
  }

  pub order-finds : (i c : ℕ) (ns : List ℕ) → times i ≡ Some c → c ≤ now
      → InOrder times d now i ns → InOrder times d now (i + 1) (ns ++ i ∷ [])
  order-finds i c ns at came w = record {
    walked = subst (Walked times d now (i + 1)) (put-last i ns w.low)
        (walk-finds i c ns at came w.walked);
    low = each-append (λ n. n < i + 1) ns (i ∷ []) (stays-below i ns w.low) (omega arith, tt);
    rises = two-pushed (λ n m. n < m) ns i w.rises w.low;
  }

  -- ---- the least

  pub first-late : (c : ℕ) (r : Option ℕ) → IsStrictlySortedBy by_latest d.early.keys
      → times d.first ≡ Some c → now < c → r ≡ least-from now None ks
      → FindsLeast (λ n. comes now (times n)) r
  first-late c r sorted at late is =
      subst (FindsLeast (λ n. comes now (times n))) (sym is)
      (finds-same (λ n. any-due now n ks) (λ n. comes now (times n))
      (λ n. by n (cases_lt n d.first)) (least-from now None ks)
      (least-due now None ks (rise d.early.keys sorted)))
    where
      by : (n : ℕ) → (n < d.first) ⊎ (d.first ≤ n) → any-due now n ks ≡ comes now (times n)
      by n (inl low) =
          let none = ap (comes now) (before-first n low) in not-early n none ∙ sym none
      by n (inr up) = late-same d.first c at late n up

  pub first-came : (c : ℕ) → times d.first ≡ Some c → c ≤ now
      → FindsLeast (λ n. comes now (times n)) (Some d.first)
  first-came c at came = record {
    passes = ap (comes now) at ∙ le-leb c now came;
    least = λ m low. ap (comes now) (before-first m low);
  }

-- ---- what the slots say

due-comes : (now : ℕ) (o : Option Slot) → is_due now o ≡ comes now (deadline_of o)
due-comes now None = refl
due-comes now (Some slot) = by (is_none slot.outcome)
  where
    both : (x : Bool) → (x && true) ≡ x
    both true = refl
    both false = refl

    by : (b : Bool) → (leb slot.deadline now && b) ≡ comes now (cond b (Some slot.deadline) None)
    by true = both (leb slot.deadline now)
    by false = and_right (leb slot.deadline now) false refl

module _ (s : Slab Slot) (p : Places) (d : Deadlines) (t : Tally) (now : ℕ)
    (x : SlotsKept) (k : IsKept s p d t) (view : kept_in s p t ≡ x) where
  due-so : (n : ℕ) → comes now (time_of s p n) ≡ is_due now (slot_at x n)
  due-so n = sym (due-comes now (found s p n)) ∙ ap (λ y. is_due now (slot_at y n)) view

  pub due-are : (ns : List ℕ) → Rises ns
      → ((n : ℕ) → stands_in n ns ≡ comes now (time_of s p n))
      → AreThose (λ n. is_due now (slot_at x n)) ns
  due-are ns rises stands = record { rises = rises; each = λ n. stands n ∙ due-so n }

  pub first-is : (r : Option ℕ) → FindsLeast (λ n. comes now (time_of s p n)) r
      → FindsLeast (λ n. is_due now (slot_at x n)) r
  first-is r h =
      finds-same (λ n. comes now (time_of s p n)) (λ n. is_due now (slot_at x n)) due-so r h

  -- none is where none is open, or where a number wasn't given
  pub none-open : t.left_open ≡ 0 → (n : ℕ) → time_of s p n ≡ None
  none-open = none-waits (time_of s p) d t k.timed (made-timed s p d t k)

  pub none-past : (n : ℕ) → t.requests < n → time_of s p n ≡ None
  none-past n up = by (time_of s p n) refl
    where
      by : (o : Option ℕ) → time_of s p n ≡ o → o ≡ None
      by None e = refl
      by (Some c) e =
          let low = made-timed s p d t k n c e in absurd (omega (arith, low, up))

  pub none-due : t.left_open ≡ 0 → AreThose (λ n. is_due now (slot_at x n)) []
  none-due none = due-are [] tt (λ n. sym (ap (comes now) (none-open none n)))

  pub none-first : time_of s p d.first ≡ None → FindsLeast (λ n. is_due now (slot_at x n)) None
  none-first h =
      first-is None (λ n. ap (comes now) (none-open (k.timed.found h) n))

  -- past the last number that was given the walk is over
  pub walk-over : (i : ℕ) (ns : List ℕ) → t.requests < i → Walked (time_of s p) d now i ns
      → (n : ℕ) → stands_in n ns ≡ comes now (time_of s p n)
  walk-over i ns past w =
      walk-ends (time_of s p) d t now k.timed i ns
      (λ n up. none-past n (omega (arith, past, up))) w

  pub order-over : (i : ℕ) (ns : List ℕ) → t.requests < i → InOrder (time_of s p) d now i ns
      → AreThose (λ n. is_due now (slot_at x n)) ns
  order-over i ns past w = due-are ns w.rises (walk-over i ns past w.walked)

  pub order-stops : (i c : ℕ) (ns : List ℕ) → time_of s p i ≡ Some c → now < c
      → InOrder (time_of s p) d now i ns → AreThose (λ n. is_due now (slot_at x n)) ns
  order-stops i c ns at late w =
      due-are ns w.rises (walk-stops (time_of s p) d t now k.timed i c ns at late w.walked)
