-- What stands where, when one slot changes, comes or goes.
use Rattle.std.proofs.Common.{◌≡◌, ◌≢◌, ℕ, Bool, true, false, cond, ◌⊎◌, inl, inr, Option, Some}
use Rattle.std.proofs.Common.{None, Less, Equal, Greater, eqb, refl, sym, ap, subst, ◌∙◌, arith}
use Rattle.std.proofs.lemmas.Bool.{cases_eq}
use Rattle.std.proofs.lemmas.Bool.Decides.{nat_tests}
use Rattle.std.specs.Option.{option_and_then}
use Rattle.std.specs.BTreeMap.{is_at}
use Rattle.std.specs.Ordering.{is_eq, nat_cmp, ordering_then}
use Rattle.std.specs.declared.cmp.Ordering.{Ordering}
use Rattle.std.specs.declared.cmp.Reverse.{Reverse}
use Rattle.slab.specs.Slab as slab
use Rattle.slab.specs.Slab.{Slab, Updates}
pub use Rattle.gb_bus.proofs.Entries.{other-number, same-number, same-some}
use Rattle.gb_bus.specs.Keeping.{Early, Places, Retimed, by_latest, has_deadline}
use Rattle.gb_bus.specs.declared.slots.Slot.{Slot}
use Rattle.gb_table.specs.Table.{Puts, item_at}

pub key-same : (a b : ℕ) → a ≡ b → is_eq (nat_cmp a b) ≡ true
key-same a b e = grind (arith, nat_tests)

pub key-other : (a b : ℕ) → a ≢ b → is_eq (nat_cmp a b) ≡ false
key-other a b e = grind (arith, nat_tests)

-- a deadline with its number, where the latest stand first
abbrev pub latest : ℕ → ℕ → Reverse (ℕ × ℕ)
latest d n = record { 0 = (d, n) }

first-other : (a b : Ordering) → is_eq a ≡ false → is_eq (ordering_then a b) ≡ false
first-other Less b e = refl
first-other Equal b e = absurd cc
first-other Greater b e = refl

second-other : (a b : Ordering) → is_eq b ≡ false → is_eq (ordering_then a b) ≡ false
second-other Less b e = refl
second-other Equal b e = e
second-other Greater b e = refl

pub both-same : (a b : Ordering) → is_eq a ≡ true → is_eq b ≡ true
    → is_eq (ordering_then a b) ≡ true
both-same Less b d e = d
both-same Equal b d e = e
both-same Greater b d e = d

-- two deadlines of one number are one if they are the same
pub time-test : (d c n : ℕ) → is_at (by_latest (latest d n)) (latest c n) ≡ eqb d c
time-test d c n = by (cases_eq d c)
  where
    by : (d ≡ c) ⊎ (d ≡ c → ⊥) → is_at (by_latest (latest d n)) (latest c n) ≡ eqb d c
    by (inl e) =
        both-same (nat_cmp c d) (nat_cmp n n) (key-same c d (sym e)) (key-same n n refl)
        ∙ sym (same-number d c e)
    by (inr ne) =
        first-other (nat_cmp c d) (nat_cmp n n) (key-other c d (λ e. ne (sym e)))
        ∙ sym (other-number d c ne)

pub time-here : (s t : Early) (d n : ℕ) (w : Bool) → Retimed s t d n w → (c : ℕ)
    → has_deadline t (c, n) ≡ cond (eqb d c) w (has_deadline s (c, n))
time-here s t d n w u c =
    u (latest c n) ∙ ap (λ b. cond b w (has_deadline s (c, n))) (time-test d c n)

pub time-others : (s t : Early) (d n : ℕ) (w : Bool) → Retimed s t d n w → (c m : ℕ)
    → m ≢ n → has_deadline t (c, m) ≡ has_deadline s (c, m)
time-others s t d n w u c m ne =
    u (latest c m) ∙ ap (λ b. cond b w (has_deadline s (c, m)))
    (second-other (nat_cmp c d) (nat_cmp m n) (key-other m n ne))

-- the slot of a number
abbrev pub found : Slab Slot → Places → ℕ → Option Slot
found s p n = option_and_then (slab.get s) (item_at p n)

-- a number that has a place has its own slot there, and a slot stands at the place of its number
pub record AllPlaced (s : Slab Slot) (p : Places) : Type 0 where
  pub placed : (n key : ℕ) → item_at p n ≡ Some key
      → (slot : Slot) × (slab.get s key ≡ Some slot) × (slot.number ≡ n)
  pub occupied : (key : ℕ) (slot : Slot) → slab.get s key ≡ Some slot
      → item_at p slot.number ≡ Some key

-- of one number this is found, and of the others what was
abbrev pub FindsAt : ℕ → Option Slot → (ℕ → Option Slot) → (ℕ → Option Slot) → Type 0
FindsAt n o f g = (m : ℕ) → g m ≡ cond (eqb m n) o (f m)

pub none-some : {A : Type 0} (a : A) → None ≡ Some a → ⊥
none-some a e = absurd (cc e)

-- what is said of one number and of the others
pub each-number : (n : ℕ) (P : ℕ → Type 0) → P n → ((m : ℕ) → m ≢ n → P m) → (m : ℕ) → P m
each-number n P here others m = by (cases_eq m n)
  where
    by : (m ≡ n) ⊎ (m ≡ n → ⊥) → P m
    by (inl e) = subst P (sym e) here
    by (inr ne) = others m ne

pub finds-here : {A : Type 0} (n : ℕ) (o : A) (f g : ℕ → A)
    → ((m : ℕ) → g m ≡ cond (eqb m n) o (f m)) → g n ≡ o
finds-here n o f g at = at n ∙ ap (λ t. cond t o (f n)) (same-number n n refl)

pub finds-other : {A : Type 0} (n : ℕ) (o : A) (f g : ℕ → A)
    → ((m : ℕ) → g m ≡ cond (eqb m n) o (f m)) → (m : ℕ) → m ≢ n → g m ≡ f m
finds-other n o f g at m ne = at m ∙ ap (λ t. cond t o (f m)) (other-number m n ne)

pub at-same : {A : Type 0} (n : ℕ) (a b c : A) → c ≡ a → c ≡ cond (eqb n n) a b
at-same n a b c e = e ∙ ap (λ t. cond t a b) (sym (same-number n n refl))

pub at-other : {A : Type 0} (m n : ℕ) (a b c : A) → m ≢ n → c ≡ b → c ≡ cond (eqb m n) a b
at-other m n a b c ne e = e ∙ ap (λ t. cond t a b) (sym (other-number m n ne))

-- what is found where the place is known
pub found-at : (s : Slab Slot) (p : Places) (n key : ℕ) (o : Option Slot)
    → item_at p n ≡ Some key → slab.get s key ≡ o → found s p n ≡ o
found-at s p n key o place e = ap (option_and_then (slab.get s)) place ∙ e

-- where the place of a number has what it had
found-same : (s s2 : Slab Slot) (p p2 : Places) (m : ℕ)
    → item_at p2 m ≡ item_at p m
    → ((k : ℕ) → item_at p m ≡ Some k → slab.get s2 k ≡ slab.get s k)
    → found s2 p2 m ≡ found s p m
found-same s s2 p p2 m place same =
    ap (option_and_then (slab.get s2)) place ∙ by (item_at p m) refl
  where
    by : (o : Option ℕ) → item_at p m ≡ o
        → option_and_then (slab.get s2) o ≡ option_and_then (slab.get s) o
    by None e = refl
    by (Some k) e = same k e

-- two numbers have two places
two-places : (s : Slab Slot) (p : Places) (m n k : ℕ) → AllPlaced s p
    → item_at p m ≡ Some k → item_at p n ≡ Some k → m ≡ n
two-places s p m n k a e f =
    let one = a.placed m k e in
    let two = a.placed n k f in
    sym one.2 ∙ ap (λ x. x.number) (same-some one.0 two.0 (sym one.1 ∙ two.1)) ∙ two.2

other-place : (s : Slab Slot) (p : Places) (m n k key : ℕ) → AllPlaced s p
    → item_at p n ≡ Some key → m ≢ n → item_at p m ≡ Some k → k ≢ key
other-place s p m n k key a place ne e =
    λ same. ne (two-places s p m n k a e (place ∙ ap Some (sym same)))

-- ---- a slot changes

pub changed : (s s2 : Slab Slot) (p : Places) (n key : ℕ) (slot : Slot) → AllPlaced s p
    → item_at p n ≡ Some key → Updates s s2 key (Some slot)
    → FindsAt n (Some slot) (found s p) (found s2 p)
changed s s2 p n key slot a place u =
    each-number n (λ m. found s2 p m ≡ cond (eqb m n) (Some slot) (found s p m))
    (at-same n (Some slot) (found s p n) (found s2 p n)
    (found-at s2 p n key (Some slot) place u.changed))
    (λ m ne. at-other m n (Some slot) (found s p m) (found s2 p m) ne
    (found-same s s2 p p m refl
    (λ k e. u.others k (other-place s p m n k key a place ne e))))

pub changed-placed : (s s2 : Slab Slot) (p : Places) (n key : ℕ) (slot : Slot)
    → AllPlaced s p → item_at p n ≡ Some key → Updates s s2 key (Some slot)
    → slot.number ≡ n → AllPlaced s2 p
changed-placed s s2 p n key slot a place u is = record {
  placed = λ m k e. by m k e (cases_eq k key);
  occupied = λ k x e. from k x e (cases_eq k key);
}
  where
    by : (m k : ℕ) → item_at p m ≡ Some k → (k ≡ key) ⊎ (k ≡ key → ⊥)
        → (x : Slot) × (slab.get s2 k ≡ Some x) × (x.number ≡ m)
    by m k e (inl same) = (
      slot,
      ap (slab.get s2) same ∙ u.changed,
      is ∙ two-places s p n m key a place (e ∙ ap Some same),
    )
    by m k e (inr ne) =
        let old = a.placed m k e in (old.0, u.others k ne ∙ old.1, old.2)

    from : (k : ℕ) (x : Slot) → slab.get s2 k ≡ Some x → (k ≡ key) ⊎ (k ≡ key → ⊥)
        → item_at p x.number ≡ Some k
    from k x e (inl same) =
        let it = same-some slot x (sym u.changed ∙ ap (slab.get s2) (sym same) ∙ e) in
        ap (item_at p) (ap (λ y. y.number) (sym it) ∙ is) ∙ place ∙ ap Some (sym same)
    from k x e (inr ne) = a.occupied k x (sym (u.others k ne) ∙ e)

-- ---- a slot goes

pub gone : (s s2 : Slab Slot) (p p2 : Places) (n key : ℕ) → AllPlaced s p
    → item_at p n ≡ Some key → Updates s s2 key None → Puts (item_at p) (item_at p2) n None
    → FindsAt n None (found s p) (found s2 p2)
gone s s2 p p2 n key a place u w =
    each-number n (λ m. found s2 p2 m ≡ cond (eqb m n) None (found s p m))
    (at-same n None (found s p n) (found s2 p2 n)
    (ap (option_and_then (slab.get s2)) (w.here)))
    (λ m ne. at-other m n None (found s p m) (found s2 p2 m) ne
    (found-same s s2 p p2 m (w.others m ne)
    (λ k e. u.others k (other-place s p m n k key a place ne e))))

pub gone-placed : (s s2 : Slab Slot) (p p2 : Places) (n key : ℕ) → AllPlaced s p
    → item_at p n ≡ Some key → Updates s s2 key None → Puts (item_at p) (item_at p2) n None
    → AllPlaced s2 p2
gone-placed s s2 p p2 n key a place u w = record {
  placed = λ m k e. by m k e (cases_eq m n);
  occupied = λ k x e. from k x e (cases_eq k key);
}
  where
    by : (m k : ℕ) → item_at p2 m ≡ Some k → (m ≡ n) ⊎ (m ≡ n → ⊥)
        → (x : Slot) × (slab.get s2 k ≡ Some x) × (x.number ≡ m)
    by m k e (inl same) =
        absurd (none-some k
        (sym (w.here) ∙ ap (item_at p2) (sym same) ∙ e))
    by m k e (inr ne) =
        let there = sym (w.others m ne) ∙ e in
        let old = a.placed m k there in (
          old.0,
          u.others k (other-place s p m n k key a place ne there) ∙ old.1,
          old.2,
        )

    from : (k : ℕ) (x : Slot) → slab.get s2 k ≡ Some x → (k ≡ key) ⊎ (k ≡ key → ⊥)
        → item_at p2 x.number ≡ Some k
    from k x e (inl same) =
        absurd (none-some x (sym u.changed ∙ ap (slab.get s2) (sym same) ∙ e))
    from k x e (inr ne) =
        let there = a.occupied k x (sym (u.others k ne) ∙ e) in
        w.others x.number
        (λ is. ne (same-some k key (sym there ∙ ap (item_at p) is ∙ place))) ∙ there

-- ---- a slot comes

free-place : (s : Slab Slot) (p : Places) (m k key : ℕ) → AllPlaced s p
    → slab.get s key ≡ None → item_at p m ≡ Some k → k ≢ key
free-place s p m k key a free e =
    λ same. let old = a.placed m k e in
    absurd (none-some old.0 (sym free ∙ ap (slab.get s) (sym same) ∙ old.1))

pub added : (s s2 : Slab Slot) (p p2 : Places) (n key : ℕ) (slot : Slot) → AllPlaced s p
    → slab.get s key ≡ None → Updates s s2 key (Some slot)
    → Puts (item_at p) (item_at p2) n (Some key)
    → FindsAt n (Some slot) (found s p) (found s2 p2)
added s s2 p p2 n key slot a free u w =
    each-number n (λ m. found s2 p2 m ≡ cond (eqb m n) (Some slot) (found s p m))
    (at-same n (Some slot) (found s p n) (found s2 p2 n)
    (found-at s2 p2 n key (Some slot) (w.here) u.changed))
    (λ m ne. at-other m n (Some slot) (found s p m) (found s2 p2 m) ne
    (found-same s s2 p p2 m (w.others m ne)
    (λ k e. u.others k (free-place s p m k key a free e))))

pub added-placed : (s s2 : Slab Slot) (p p2 : Places) (n key : ℕ) (slot : Slot)
    → AllPlaced s p → item_at p n ≡ None → slab.get s key ≡ None
    → Updates s s2 key (Some slot) → Puts (item_at p) (item_at p2) n (Some key) → slot.number ≡ n
    → AllPlaced s2 p2
added-placed s s2 p p2 n key slot a absent free u w is = record {
  placed = λ m k e. by m k e (cases_eq m n);
  occupied = λ k x e. from k x e (cases_eq k key);
}
  where
    by : (m k : ℕ) → item_at p2 m ≡ Some k → (m ≡ n) ⊎ (m ≡ n → ⊥)
        → (x : Slot) × (slab.get s2 k ≡ Some x) × (x.number ≡ m)
    by m k e (inl same) =
        let it = same-some key k
        (sym (w.here) ∙ ap (item_at p2) (sym same) ∙ e) in
        (slot, ap (slab.get s2) (sym it) ∙ u.changed, is ∙ sym same)
    by m k e (inr ne) =
        let there = sym (w.others m ne) ∙ e in
        let old = a.placed m k there in
        (old.0, u.others k (free-place s p m k key a free there) ∙ old.1, old.2)

    from : (k : ℕ) (x : Slot) → slab.get s2 k ≡ Some x → (k ≡ key) ⊎ (k ≡ key → ⊥)
        → item_at p2 x.number ≡ Some k
    from k x e (inl same) =
        let it = same-some slot x (sym u.changed ∙ ap (slab.get s2) (sym same) ∙ e) in
        ap (item_at p2) (ap (λ y. y.number) (sym it) ∙ is)
        ∙ w.here ∙ ap Some (sym same)
    from k x e (inr ne) =
        let there = a.occupied k x (sym (u.others k ne) ∙ e) in
        w.others x.number
        (λ num. absurd (none-some k (sym absent ∙ ap (item_at p) (sym num) ∙ there)))
        ∙ there
