-- The deadlines that came, in order: their numbers, and the least of these.
use Rattle.std.proofs.Common.{◌≡◌, ◌<◌, ◌≤◌, ℕ, Bool, true, false, ◌&&◌, ◌||◌, cond, ◌⊎◌, ⊎_elim}
use Rattle.std.proofs.Common.{inl, inr, Option, Some, None, List, [], ◌∷◌, ◌++◌, Less, Equal}
use Rattle.std.proofs.Common.{Greater, eqb, leb, refl, sym, ap, ◌∙◌, arith}
use Rattle.std.proofs.lemmas.Bool.{and_left, both_ways, cases_lt, eq-eqb, eqb-true, le-leb}
use Rattle.std.proofs.lemmas.Bool.{leb-false, leb-true, lt-leb, ne_eqb, or_cases, or_from, or_left}
use Rattle.std.proofs.lemmas.Bool.{or_parts, or_right}
use Rattle.std.proofs.lemmas.Bool.Decides.{nat_tests}
use Rattle.std.proofs.lemmas.List.Elements.{All-weaker}
use Rattle.std.proofs.lemmas.List.Folds.{list_any-append, list_any_at, list_any_none}
use Rattle.std.proofs.lemmas.Map.Keys.{le_from_not_gt, sorted_head, sorted_tail}
use Rattle.std.proofs.lemmas.Option.{get_or_from_slice_get, slice_get_within}
use Rattle.std.specs.BTreeSet.{insert_key}
use Rattle.std.specs.List.{All, AllByRecursion, list_any, slice_get}
use Rattle.std.specs.List.Sorted.{IsStrictlySortedBy}
use Rattle.std.specs.Ordering.{is_gt, is_lt, match_ordering, nat_cmp, ordering_then}
use Rattle.std.specs.declared.cmp.Ordering.{Ordering}
use Rattle.std.specs.declared.cmp.Reverse.{Reverse}
use Rattle.gb_bus.specs.Keeping.{by_deadline, by_latest, came_early, lesser_of}
use Rattle.gb_bus.specs.Listing.{FindsLeast, stands_in}
use Rattle.gb_machine.specs.Members.{Each}
use Rattle.gb_ops.proofs.Listing.{same-key}

-- the earliest first, of those that stand the latest first
abbrev pub earliest-first : List (Reverse (ℕ × ℕ)) → List (ℕ × ℕ)
earliest-first [] = []
earliest-first (r ∷ rs) = earliest-first rs ++ r.0 ∷ []

-- the numbers whose deadline came, put among these
abbrev pub due-keys : ℕ → List ℕ → List (ℕ × ℕ) → List ℕ
due-keys now ns [] = ns
due-keys now ns (k ∷ ks) =
    let later = due-keys now (insert_key nat_cmp ns k.1) ks in cond (leb k.0 now) later ns

-- the least of this one and of the numbers whose deadline came
abbrev pub least-from : ℕ → Option ℕ → List (ℕ × ℕ) → Option ℕ
least-from now least [] = least
least-from now least (k ∷ ks) =
    let later = least-from now (Some (lesser_of k.1 least)) ks in cond (leb k.0 now) later least

-- the last comes first
last-first : (rs : List (Reverse (ℕ × ℕ))) (r : Reverse (ℕ × ℕ))
    → earliest-first (rs ++ r ∷ []) ≡ r.0 ∷ earliest-first rs
last-first [] r = refl
last-first (x ∷ rs) r = ap (λ ks. ks ++ x.0 ∷ []) (last-first rs r)

next-first : (all rs : List (Reverse (ℕ × ℕ))) (r : Reverse (ℕ × ℕ)) → all ≡ rs ++ r ∷ []
    → earliest-first all ≡ r.0 ∷ earliest-first rs
next-first all rs r e = ap earliest-first e ∙ last-first rs r

-- they are at their end where none is left, or where the next didn't come, and go on where it came
pub due-ends : (now : ℕ) (ns : List ℕ) (rs : List (Reverse (ℕ × ℕ))) → rs ≡ []
    → ns ≡ due-keys now ns (earliest-first rs)
due-ends now ns rs e = sym (ap (λ x. due-keys now ns (earliest-first x)) e)

module _ (now : ℕ) (ns : List ℕ) (all rs : List (Reverse (ℕ × ℕ))) (r : Reverse (ℕ × ℕ))
    (e : all ≡ rs ++ r ∷ []) where
  due-by : (t : Bool) → leb r.0.0 now ≡ t
      → due-keys now ns (earliest-first all)
      ≡ cond t (due-keys now (insert_key nat_cmp ns r.0.1) (earliest-first rs)) ns
  due-by t is =
      ap (due-keys now ns) (next-first all rs r e)
      ∙ ap (λ b. cond b (due-keys now (insert_key nat_cmp ns r.0.1) (earliest-first rs)) ns) is

  pub due-stops : now < r.0.0 → ns ≡ due-keys now ns (earliest-first all)
  due-stops late = sym (due-by false (lt-leb r.0.0 now late))

  pub due-goes : r.0.0 ≤ now
      → due-keys now (insert_key nat_cmp ns r.0.1) (earliest-first rs)
      ≡ due-keys now ns (earliest-first all)
  due-goes came = sym (due-by true (le-leb r.0.0 now came))

pub least-ends : (now : ℕ) (least : Option ℕ) (rs : List (Reverse (ℕ × ℕ))) → rs ≡ []
    → least ≡ least-from now least (earliest-first rs)
least-ends now least rs e = sym (ap (λ x. least-from now least (earliest-first x)) e)

module _ (now : ℕ) (least : Option ℕ) (all rs : List (Reverse (ℕ × ℕ))) (r : Reverse (ℕ × ℕ))
    (e : all ≡ rs ++ r ∷ []) where
  least-by : (t : Bool) → leb r.0.0 now ≡ t
      → least-from now least (earliest-first all)
      ≡ cond t (least-from now (Some (lesser_of r.0.1 least)) (earliest-first rs)) least
  least-by t is =
      ap (least-from now least) (next-first all rs r e)
      ∙ ap (λ b. cond b (least-from now (Some (lesser_of r.0.1 least)) (earliest-first rs)) least)
      is

  pub least-stops : now < r.0.0 → least ≡ least-from now least (earliest-first all)
  least-stops late = sym (least-by false (lt-leb r.0.0 now late))

  pub least-goes : r.0.0 ≤ now
      → least-from now (Some (lesser_of r.0.1 least)) (earliest-first rs)
      ≡ least-from now least (earliest-first all)
  least-goes came = sym (least-by true (le-leb r.0.0 now came))

-- a deadline of a number came
abbrev pub any-due : ℕ → ℕ → List (ℕ × ℕ) → Bool
any-due now n ks = list_any (λ k. leb k.0 now && eqb k.1 n) ks

-- ---- past a deadline that didn't come none came

not-greater : (a b : Ordering) → ordering_then a b ≡ Less → is_gt a ≡ false
not-greater Less b e = refl
not-greater Equal b e = refl
not-greater Greater b e = absurd (cc e)

none-past : (now n : ℕ) (k : ℕ × ℕ) (ks : List (ℕ × ℕ)) → leb k.0 now ≡ false
    → AllByRecursion (λ y. by_deadline k y ≡ Less) ks → any-due now n ks ≡ false
none-past now n k [] late all = refl
none-past now n k (y ∷ ks) late all =
    let up = le_from_not_gt k.0 y.0 (not-greater (nat_cmp k.0 y.0) (nat_cmp k.1 y.1) all.0) in
    let low = leb-false k.0 now late in
    let past : now < y.0 = omega (arith, up, low) in
    or_from (leb y.0 now && eqb y.1 n) (any-due now n ks)
    (and_left (leb y.0 now) (eqb y.1 n) (lt-leb y.0 now past)) (none-past now n k ks late all.1)

-- ---- whether an early one came

not-less : (a b : Ordering) → is_lt (ordering_then a b) ≡ false → is_lt a ≡ false
not-less Less b e = e
not-less Equal b e = refl
not-less Greater b e = refl

up-to : (a b : ℕ) → is_lt (nat_cmp a b) ≡ false → b ≤ a
up-to a b e = grind (arith, nat_tests)

-- the last tells it, since no other is before it
pub last-tells : (now i : ℕ) (r : Reverse (ℕ × ℕ)) (rs : List (Reverse (ℕ × ℕ)))
    → slice_get rs i ≡ Some r → All (λ q. is_lt (by_latest r q) ≡ false) rs
    → leb r.0.0 now ≡ came_early now rs
last-tells now i r rs at last = by (leb r.0.0 now) refl
  where
    by : (t : Bool) → leb r.0.0 now ≡ t → t ≡ came_early now rs
    by true came =
        sym (list_any_at (λ q. leb q.0.0 now) rs i r (slice_get_within rs i r at)
        (ap (λ q. leb q.0.0 now) (get_or_from_slice_get rs i r r at) ∙ came))
    by false late =
        let low = leb-false r.0.0 now late in
        sym (list_any_none (λ q. leb q.0.0 now) rs
        (All-weaker (λ q. is_lt (by_latest r q) ≡ false) (λ q. leb q.0.0 now ≡ false)
        (λ q e.
        let up = up-to q.0.0 r.0.0
        (not-less (nat_cmp q.0.0 r.0.0) (nat_cmp q.0.1 r.0.1) e) in
        lt-leb q.0.0 now (omega (arith, up, low)))
        rs last))

-- none came where no early one did
pub none-early : (now n : ℕ) (rs : List (Reverse (ℕ × ℕ))) → came_early now rs ≡ false
    → any-due now n (earliest-first rs) ≡ false
none-early now n [] e = refl
none-early now n (r ∷ rs) e =
    let parts = or_parts (leb r.0.0 now) (came_early now rs) e in
    list_any-append (λ k. leb k.0 now && eqb k.1 n) (earliest-first rs) (r.0 ∷ [])
    ∙ or_from (any-due now n (earliest-first rs)) (any-due now n (r.0 ∷ []))
    (none-early now n rs parts.1)
    (or_from (leb r.0.0 now && eqb r.0.1 n) false
    (and_left (leb r.0.0 now) (eqb r.0.1 n) parts.0) refl)

-- ---- the numbers that are put among others

pub stands-put : (n m : ℕ) (ns : List ℕ) → stands_in n (insert_key nat_cmp ns m)
    ≡ (eqb m n || stands_in n ns)
stands-put n m [] = refl
stands-put n m (x ∷ ns) = by (nat_cmp m x) refl (stands-put n m ns)
  where
    once : (a b : Bool) → (a || b) ≡ (a || (a || b))
    once true b = refl
    once false b = refl

    swap : (a b c : Bool) → (a || (b || c)) ≡ (b || (a || c))
    swap true true c = refl
    swap true false c = refl
    swap false true c = refl
    swap false false c = refl

    by : (o : Ordering) → nat_cmp m x ≡ o
        → stands_in n (insert_key nat_cmp ns m) ≡ (eqb m n || stands_in n ns)
        → stands_in n (match_ordering o (m ∷ x ∷ ns) (x ∷ ns) (x ∷ insert_key nat_cmp ns m))
        ≡ (eqb m n || (eqb x n || stands_in n ns))
    by Less e later = refl
    by Equal e later =
        once (eqb x n) (stands_in n ns)
        ∙ ap (λ k. eqb k n || (eqb x n || stands_in n ns)) (sym (same-key m x e))
    by Greater e later =
        ap (λ b. eqb x n || b) later ∙ swap (eqb x n) (eqb m n) (stands_in n ns)

-- one that is above all comes last
pub put-last : (i : ℕ) (ns : List ℕ) → Each (λ n. n < i) ns
    → insert_key nat_cmp ns i ≡ ns ++ i ∷ []
put-last i [] low = refl
put-last i (x ∷ ns) low =
    ap (λ o. match_ordering o (i ∷ x ∷ ns) (x ∷ ns) (x ∷ insert_key nat_cmp ns i))
    (greater i x low.0)
    ∙ ap (λ l. x ∷ l) (put-last i ns low.1)
  where
    greater : (i x : ℕ) → x < i → nat_cmp i x ≡ Greater
    greater i x up = grind (arith, nat_tests)

pub stands-due : (now n : ℕ) (ns : List ℕ) (ks : List (ℕ × ℕ)) → IsStrictlySortedBy by_deadline ks
    → stands_in n (due-keys now ns ks) ≡ (stands_in n ns || any-due now n ks)
stands-due now n ns [] s = last (stands_in n ns)
  where
    last : (a : Bool) → a ≡ (a || false)
    last true = refl
    last false = refl
stands-due now n ns (k ∷ ks) s =
    by (leb k.0 now) refl
    (stands-due now n (insert_key nat_cmp ns k.1) ks (sorted_tail by_deadline k ks s))
  where
    turn : (a b c : Bool) → ((a || b) || c) ≡ (b || (a || c))
    turn true true c = refl
    turn true false c = refl
    turn false true c = refl
    turn false false c = refl

    last : (a c : Bool) → c ≡ false → a ≡ (a || c)
    last true c e = refl
    last false c e = sym e

    by : (t : Bool) → leb k.0 now ≡ t
        → stands_in n (due-keys now (insert_key nat_cmp ns k.1) ks)
        ≡ (stands_in n (insert_key nat_cmp ns k.1) || any-due now n ks)
        → stands_in n (cond t (due-keys now (insert_key nat_cmp ns k.1) ks) ns)
        ≡ (stands_in n ns || ((t && eqb k.1 n) || any-due now n ks))
    by true e later =
        later ∙ ap (λ b. b || any-due now n ks) (stands-put n k.1 ns)
        ∙ turn (eqb k.1 n) (stands_in n ns) (any-due now n ks)
    by false e later =
        last (stands_in n ns) (any-due now n ks)
        (none-past now n k ks e (sorted_head by_deadline k ks s))

-- ---- the least

abbrev is-that : Option ℕ → ℕ → Bool
is-that None n = false
is-that (Some a) n = eqb a n

pub finds-same : (f g : ℕ → Bool) → ((n : ℕ) → f n ≡ g n) → (r : Option ℕ) → FindsLeast f r
    → FindsLeast g r
finds-same f g same None h = λ m. sym (same m) ∙ h m
finds-same f g same (Some n) h =
    record { passes = sym (same n) ∙ h.passes; least = λ m low. sym (same m) ∙ h.least m low }

-- nothing else passes
alone : (least : Option ℕ) (f : ℕ → Bool) → ((n : ℕ) → f n ≡ false)
    → FindsLeast (λ n. is-that least n || f n) least
alone None f none = none
alone (Some a) f none = record {
  passes = or_left (eqb a a) (f a) (eq-eqb a a refl);
  least = λ m low.
      or_from (eqb a m) (f m) (ne_eqb a m (λ e. absurd (omega (arith, low, e)))) (none m);
}

-- the lesser of two is one of them
record IsLesser (k a b : ℕ) : Type 0 where
  pub first : b ≤ a
  pub second : b ≤ k
  pub one : (n : ℕ) → b ≡ n → (eqb a n ≡ true) ⊎ (eqb k n ≡ true)

is-lesser : (k a : ℕ) → IsLesser k a (lesser_of k (Some a))
is-lesser k a = by (leb a k) refl
  where
    by : (t : Bool) → leb a k ≡ t → IsLesser k a (cond t a k)
    by true e = record {
      first = omega arith;
      second = leb-true a k e;
      one = λ n same. inl (eq-eqb a n same);
    }
    by false e = record {
      first = let low = leb-false a k e in omega (arith, low);
      second = omega arith;
      one = λ n same. inr (eq-eqb k n same);
    }

with-lesser : (least : Option ℕ) (k : ℕ) (f : ℕ → Bool) (r : Option ℕ)
    → FindsLeast (λ n. eqb (lesser_of k least) n || f n) r
    → FindsLeast (λ n. is-that least n || (eqb k n || f n)) r
with-lesser None k f r h = h
with-lesser (Some a) k f None h =
    absurd (both_ways (eqb b b || f b) (h b) (or_left (eqb b b) (f b) (eq-eqb b b refl)))
  where
    b : ℕ
    b = lesser_of k (Some a)
with-lesser (Some a) k f (Some n) h = record {
  passes = ⊎_elim
      (λ e. ⊎_elim (λ x. or_left (eqb a n) (eqb k n || f n) x)
      (λ x. or_right (eqb a n) (eqb k n || f n) (or_left (eqb k n) (f n) x))
      (l.one n (eqb-true b n e)))
      (λ e. or_right (eqb a n) (eqb k n || f n) (or_right (eqb k n) (f n) e))
      (or_cases (eqb b n) (f n) h.passes);
  least = λ m low.
      or_from (eqb a m) (eqb k m || f m)
      (ne_eqb a m (λ e. let x = l.first in absurd (omega (arith, x, e, low, up))))
      (or_from (eqb k m) (f m)
      (ne_eqb k m (λ e. let x = l.second in absurd (omega (arith, x, e, low, up))))
      (or_parts (eqb b m) (f m) (h.least m low)).1);
}
  where
    b : ℕ
    b = lesser_of k (Some a)

    l : IsLesser k a b
    l = is-lesser k a

    up : n ≤ b
    up = ⊎_elim
        (λ under. absurd (both_ways (eqb b b || f b) (h.least b under)
        (or_left (eqb b b) (f b) (eq-eqb b b refl))))
        (λ x. x) (cases_lt b n)

pub least-due : (now : ℕ) (least : Option ℕ) (ks : List (ℕ × ℕ)) → IsStrictlySortedBy by_deadline ks
    → FindsLeast (λ n. is-that least n || any-due now n ks) (least-from now least ks)
least-due now least [] s = alone least (λ n. false) (λ n. refl)
least-due now least (k ∷ ks) s =
    by (leb k.0 now) refl
    (least-due now (Some (lesser_of k.1 least)) ks (sorted_tail by_deadline k ks s))
  where
    by : (t : Bool) → leb k.0 now ≡ t
        → FindsLeast (λ n. eqb (lesser_of k.1 least) n || any-due now n ks)
        (least-from now (Some (lesser_of k.1 least)) ks)
        → FindsLeast (λ n. is-that least n || ((t && eqb k.1 n) || any-due now n ks))
        (cond t (least-from now (Some (lesser_of k.1 least)) ks) least)
    by true e later =
        with-lesser least k.1 (λ n. any-due now n ks)
        (least-from now (Some (lesser_of k.1 least)) ks) later
    by false e later = alone least (λ n. any-due now n ks)
        (λ n. none-past now n k ks e (sorted_head by_deadline k ks s))
