-- Loose items: none more than before.
use Rattle.std.proofs.Common.{Bool, List, Some, ap, arith, cond, false, inl, inr, map, not, refl}
use Rattle.std.proofs.Common.{subst, suc, sym, true, zero, ℕ, ⊎_elim, [], ◌++◌, ◌-◌, ◌∙◌, ◌∷◌, ◌≡◌}
use Rattle.std.proofs.Common.{◌≤◌}
use Rattle.std.proofs.lemmas.Bool.Decides.{nat_tests}
use Rattle.std.specs.List.{slice_get}
use Rattle.std.specs.Prelude.{◌==◌}
use Rattle.gb_machine.specs.Holding.{held_on, held_without, is_held_on}
use Rattle.gb_machine.specs.{Bus.Item, Lists.nth, Lists.without, Members.IsIn, Members.times}
use Rattle.gb_machine.specs.{State.Held}
use Rattle.gb_invariants.proofs.Lists.{in-filter, in-pushed, in-without}
use Rattle.gb_invariants.proofs.{Awaiting.same-some, Counts.one, Counts.times-cons}
use Rattle.gb_invariants.proofs.{Outcomes.same-number}
use Rattle.gb_invariants.specs.Facts.{Loose}
use Rattle.gb_laws.proofs.points.PointParts.{loose_held}

-- a test of items, on loose ones
abbrev pub on_item : (Item → Bool) → Loose → Bool
on_item test l = test l.item

-- Later loose items are some of those before, and of each kind as many or fewer.
pub record Fewer (later loose : List Loose) : Type 0 where
  pub within : (l : Loose) → IsIn l later → IsIn l loose
  pub counts : (test : Item → Bool) → times (on_item test) later ≤ times (on_item test) loose

pub fewer-tail : (l : Loose) {ls : List Loose} → Fewer ls (l ∷ ls)
fewer-tail l {ls} = record {
  within = λ x i. inr i;
  counts = λ test. omega (arith, times-cons (on_item test) l ls);
}

in-map-held : (l : Loose) (hs : List Held) → IsIn l (map loose_held hs) → (h : Held) × IsIn h hs
    × (l ≡ loose_held h)
in-map-held l [] i = absurd i
in-map-held l (h ∷ hs) (inl e) = (h, inl refl, e)
in-map-held l (h ∷ hs) (inr i) = let r = in-map-held l hs i in (r.0, inr r.1, r.2)

pub map-held-in : (h : Held) (hs : List Held) → IsIn h hs → IsIn (loose_held h) (map loose_held hs)
map-held-in h [] i = absurd i
map-held-in h (k ∷ ks) (inl e) = inl (ap loose_held e)
map-held-in h (k ∷ ks) (inr i) = inr (map-held-in h ks i)

-- fewer that are held
within-held : (later hs : List Held) → ((h : Held) → IsIn h later → IsIn h hs) → (l : Loose)
    → IsIn l (map loose_held later) → IsIn l (map loose_held hs)
within-held later hs f l i =
    let r = in-map-held l later i in
    subst (λ x. IsIn x (map loose_held hs)) (sym r.2) (map-held-in r.0 hs (f r.0 r.1))

-- an item that is held goes behind the others
pub fewer-held : (l : Loose) (h : Held) (hs : List Held) → l ≡ loose_held h
    → Fewer (map loose_held (hs ++ h ∷ [])) (l ∷ map loose_held hs)
fewer-held l h hs e = record { within = within; counts = counts hs }
  where
    within : (x : Loose) → IsIn x (map loose_held (hs ++ h ∷ [])) → IsIn x (l ∷ map loose_held hs)
    within x i =
        let r = in-map-held x (hs ++ h ∷ []) i in
        ⊎_elim (λ j. inr (subst (λ y. IsIn y (map loose_held hs)) (sym r.2) (map-held-in r.0 hs j)))
        (λ is. inl (r.2 ∙ ap loose_held is ∙ sym e)) (in-pushed r.0 hs h r.1)

    counts : (ks : List Held) (test : Item → Bool)
        → times (on_item test) (map loose_held (ks ++ h ∷ [])) ≤ times (on_item test)
        (l ∷ map loose_held ks)
    counts [] test = omega (arith, ap (λ x. times (on_item test) (x ∷ [])) e)
    counts (k ∷ ks) test =
        omega (
          arith,
          counts ks test,
          times-cons (on_item test) (loose_held k) (map loose_held (ks ++ h ∷ [])),
          times-cons (on_item test) l (map loose_held ks),
          times-cons (on_item test) l (loose_held k ∷ map loose_held ks),
          times-cons (on_item test) (loose_held k) (map loose_held ks),
        )

-- what is held but for those of a connection
pub fewer-without : (k : ℕ) (hs : List Held)
    → Fewer (map loose_held (without (λ h. h.connection == k) hs)) (map loose_held hs)
fewer-without k hs = record {
  within = within-held (without (λ h. h.connection == k) hs) hs
      (λ h i. (in-without (λ (h : Held). h.connection == k) hs h i).0);
  counts = λ test. counts test hs;
}
  where
    counts : (test : Item → Bool) (ks : List Held)
        → times (on_item test) (map loose_held (without (λ h. h.connection == k) ks))
        ≤ times (on_item test) (map loose_held ks)
    counts test [] = omega arith
    counts test (h ∷ ks) = by (not (h.connection == k)) (counts test ks)
      where
        by : (t : Bool) → times (on_item test)
            (map loose_held (without (λ h. h.connection == k) ks)) ≤ times (on_item test)
            (map loose_held ks) → times (on_item test) (map loose_held
            (cond t (h ∷ without (λ h. h.connection == k) ks)
            (without (λ h. h.connection == k) ks)))
            ≤ times (on_item test) (loose_held h ∷ map loose_held ks)
        by true r = omega (
          arith,
          r,
          times-cons (on_item test) (loose_held h)
              (map loose_held (without (λ h. h.connection == k) ks)),
          times-cons (on_item test) (loose_held h) (map loose_held ks),
        )
        by false r = omega (arith, r, times-cons (on_item test) (loose_held h) (map loose_held ks))

-- and none of them is of that connection
pub without-none : (k : ℕ) (hs : List Held) (l : Loose)
    → IsIn l (map loose_held (without (λ h. h.connection == k) hs)) → l.connection ≡ k → ⊥
without-none k hs l i e =
    let r = in-map-held l (without (λ h. h.connection == k) hs) i in
    let other = (in-without (λ (h : Held). h.connection == k) hs r.0 r.1).1 in
    let same : r.0.connection ≡ k = sym (ap (λ (x : Loose). x.connection) r.2) ∙ e in
    absurd (grind (arith, nat_tests))

-- ---- a held item is taken

in-slice : {A : Type 0} (xs : List A) (i : ℕ) (x : A) → slice_get xs i ≡ Some x → IsIn x xs
in-slice [] i x h = absurd cc
in-slice (y ∷ ys) zero x h = inl (sym (same-some y x h))
in-slice (y ∷ ys) (suc i) x h = inr (in-slice ys i x h)

pub in-nth : {A : Type 0} (n : ℕ) (xs : List A) (x : A) → nth n xs ≡ Some x → IsIn x xs
in-nth zero xs x h = absurd cc
in-nth (suc i) xs x h = in-slice xs i x h

-- a held item at a place is held on that connection
pub held-at : (k place : ℕ) (hs : List Held) (h : Held) → nth place (held_on k hs) ≡ Some h
    → IsIn h hs × (h.connection ≡ k)
held-at k place hs h e =
    let f = in-filter (is_held_on k) hs h (in-nth place (held_on k hs) h e) in
    (f.0, same-number h.connection k f.1)

in-held_without : (k place : ℕ) (hs : List Held) (h : Held) → IsIn h (held_without k place hs)
    → IsIn h hs
in-held_without k place [] h i = absurd i
in-held_without k place (x ∷ xs) h i =
    by (is_held_on k x) (place == 1) i (in-held_without k (place - 1) xs h)
    (in-held_without k place xs h)
  where
    by : (t one : Bool) → IsIn h (cond t (cond one xs (x ∷ held_without k (place - 1) xs))
        (x ∷ held_without k place xs)) → (IsIn h (held_without k (place - 1) xs) → IsIn h xs)
        → (IsIn h (held_without k place xs) → IsIn h xs) → IsIn h (x ∷ xs)
    by true true i f g = inr i
    by true false (inl e) f g = inl e
    by true false (inr i) f g = inr (f i)
    by false one (inl e) f g = inl e
    by false one (inr i) f g = inr (g i)

-- the item that is taken, and the others, are as many as were held
counts-taken : (test : Item → Bool) (k place : ℕ) (hs : List Held) (h : Held)
    → nth place (held_on k hs) ≡ Some h
    → times (on_item test) (map loose_held (h ∷ held_without k place hs)) ≤ times (on_item test)
    (map loose_held hs)
counts-taken test k zero hs h e = absurd cc
counts-taken test k (suc i) [] h e = absurd cc
counts-taken test k (suc i) (x ∷ xs) h e =
    by (is_held_on k x) refl i e (counts-taken test k i xs h) (counts-taken test k (suc i) xs h)
  where
    -- how many there are, with one in front
    Most : List Held → List Held → Type 0
    Most later ks = times (on_item test) (map loose_held (h ∷ later)) ≤ times (on_item test)
        (map loose_held ks)

    in-front : (later ks : List Held) → Most later ks → Most (x ∷ later) (x ∷ ks)
    in-front later ks r =
        omega (
          arith,
          r,
          times-cons (on_item test) (loose_held h) (map loose_held later),
          times-cons (on_item test) (loose_held h) (map loose_held (x ∷ later)),
          times-cons (on_item test) (loose_held x) (map loose_held later),
          times-cons (on_item test) (loose_held x) (map loose_held ks),
        )

    by : (t : Bool) → is_held_on k x ≡ t → (i : ℕ)
        → nth (suc i) (cond t (x ∷ held_on k xs) (held_on k xs)) ≡ Some h
        → (nth i (held_on k xs) ≡ Some h → Most (held_without k i xs) xs)
        → (nth (suc i) (held_on k xs) ≡ Some h → Most (held_without k (suc i) xs) xs)
        → Most (cond t (cond (suc i == 1) xs (x ∷ held_without k (suc i - 1) xs))
        (x ∷ held_without k (suc i) xs)) (x ∷ xs)
    by false f i e front later = in-front (held_without k (suc i) xs) xs (later e)
    by true f zero e front later = let is : x ≡ h = same-some x h e in omega
        (arith, ap (λ y. times (on_item test) (map loose_held (y ∷ xs))) is)
    by true f (suc j) e front later =
        let other : (suc (suc j) == 1) ≡ false = grind (arith, nat_tests) in
        let less : suc (suc j) - 1 ≡ suc j = omega arith in
        subst (λ t. Most (cond t xs (x ∷ held_without k (suc (suc j) - 1) xs)) (x ∷ xs)) (sym other)
        (subst (λ n. Most (x ∷ held_without k n xs) (x ∷ xs)) (sym less)
        (in-front (held_without k (suc j) xs) xs (front e)))

pub fewer-taken : (k place : ℕ) (hs : List Held) (h : Held) (l : Loose)
    → nth place (held_on k hs) ≡ Some h → l ≡ loose_held h
    → Fewer (l ∷ map loose_held (held_without k place hs)) (map loose_held hs)
fewer-taken k place hs h l e is = record {
  within = λ x i. ⊎_elim (λ same. subst (λ y. IsIn y (map loose_held hs)) (sym (same ∙ is))
      (map-held-in h hs (held-at k place hs h e).0))
      (λ j. within-held (held_without k place hs) hs (in-held_without k place hs) x j) i;
  counts = λ test. omega (
    arith,
    counts-taken test k place hs h e,
    ap (λ x. times (on_item test) (x ∷ map loose_held (held_without k place hs))) is,
  );
}
