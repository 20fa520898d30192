-- What is kept after one slot changes or goes, and the counts with it.
use Rattle.std.proofs.Common.{◌≡◌, ◌≢◌, ℕ, ◌-◌, ◌≤◌, true, false, cond, Option, Some, None, eqb}
use Rattle.std.proofs.Common.{nat_lt, refl, sym, ap, subst, ◌∙◌, arith}
use Rattle.std.proofs.lemmas.Bool.{both_ways, or_parts}
use Rattle.std.specs.Option.{is_none, option_and_then}
use Rattle.slab.specs.Slab as slab
use Rattle.slab.specs.Slab.{Slab, Updates, with_value}
use Rattle.slab.proofs.SlabLemmas.{Updates-with_value}
use Rattle.gb_base.specs.declared.outcome.Outcome.{Outcome}
use Rattle.gb_base.specs.declared.outcome.Outcome.TheVariants as outcome
use Rattle.gb_bus.proofs.SlotMaps.{AllPlaced, FindsAt}
use Rattle.gb_bus.proofs.SlotMaps.{changed, changed-placed, each-number, finds-here, finds-other}
use Rattle.gb_bus.proofs.SlotMaps.{found, found-at, gone, gone-placed, none-some, other-number}
use Rattle.gb_bus.proofs.SlotMaps.{same-some}
use Rattle.gb_bus.proofs.SlotTimes.{some-waits, stays-same, timed-ended, timed-same}
use Rattle.gb_bus.specs.Counting.{counted_once, one_ended}
use Rattle.gb_bus.specs.Keeping.{AreTimed, IsKept, IsNext, Places, Removes, deadline_of}
use Rattle.gb_bus.specs.Keeping.{is_let_go, kept_in, time_of}
use Rattle.gb_bus.specs.Slots.{ChangesAt, SlotsKept, MovesAt, is_asked_for, is_open_slot}
use Rattle.gb_bus.specs.declared.deadlines.Deadlines.{Deadlines}
use Rattle.gb_bus.specs.declared.slots.Slot.{Slot}
use Rattle.gb_bus.specs.declared.tally.Tally.{Tally}
use Rattle.gb_table.specs.Table.{Puts, item_at}

pub all-placed : (s : Slab Slot) (p : Places) (d : Deadlines) (t : Tally)
    → IsKept s p d t → AllPlaced s p
all-placed s p d t k = record { placed = k.placed; occupied = k.occupied }

-- the new slot of a number is awaited if it is open, and its request was made
pub record IsFit (n : ℕ) (o : Option Slot) (t : Tally) : Type 0 where
  pub asked : (slot : Slot) → o ≡ Some slot → slot.outcome ≡ None → slot.awaited ≡ true
  pub made : (slot : Slot) → o ≡ Some slot → n ≤ t.requests

pub kept-from : (s s2 : Slab Slot) (p p2 : Places) (d d2 : Deadlines) (t t2 : Tally)
    (n : ℕ) (o : Option Slot) → IsKept s p d t → AllPlaced s2 p2
    → FindsAt n o (found s p) (found s2 p2) → AreTimed (time_of s2 p2) d2 t2 → IsFit n o t2
    → t.requests ≤ t2.requests → counted_once t2 ≡ t2.requests → IsKept s2 p2 d2 t2
kept-from s s2 p p2 d d2 t t2 n o k a f timed fit more counted = record {
  placed = a.placed;
  occupied = a.occupied;
  timed = timed;
  asked = each-number n
      (λ m. (slot : Slot) → found s2 p2 m ≡ Some slot → slot.outcome ≡ None → slot.awaited ≡ true)
      (λ slot e. fit.asked slot (sym here ∙ e))
      (λ m ne slot e. k.asked m slot (sym (others m ne) ∙ e));
  made = each-number n (λ m. (slot : Slot) → found s2 p2 m ≡ Some slot → m ≤ t2.requests)
      (λ slot e. fit.made slot (sym here ∙ e))
      (λ m ne slot e. let low = k.made m slot (sym (others m ne) ∙ e) in omega (arith, low, more));
  counted = counted;
}
  where
    here : found s2 p2 n ≡ o
    here = finds-here n o (found s p) (found s2 p2) f

    others : (m : ℕ) → m ≢ n → found s2 p2 m ≡ found s p m
    others = finds-other n o (found s p) (found s2 p2) f

-- each open request was made
pub made-timed : (s : Slab Slot) (p : Places) (d : Deadlines) (t : Tally) → IsKept s p d t
    → (n c : ℕ) → time_of s p n ≡ Some c → n ≤ t.requests
made-timed s p d t k n c e = by (found s p n) refl e
  where
    by : (o : Option Slot) → found s p n ≡ o → deadline_of o ≡ Some c → n ≤ t.requests
    by None is e = absurd (none-some c e)
    by (Some slot) is e = k.made n slot is

-- the deadlines of the others are those that were
pub times-other : (s s2 : Slab Slot) (p p2 : Places) (n : ℕ) (o : Option Slot)
    → FindsAt n o (found s p) (found s2 p2) → (m : ℕ) → m ≢ n → time_of s2 p2 m ≡ time_of s p m
times-other s s2 p p2 n o f m ne =
    ap deadline_of (finds-other n o (found s p) (found s2 p2) f m ne)

pub time-at : (s s2 : Slab Slot) (p p2 : Places) (n : ℕ) (o : Option Slot)
    → FindsAt n o (found s p) (found s2 p2) → time_of s2 p2 n ≡ deadline_of o
time-at s s2 p p2 n o f = ap deadline_of (finds-here n o (found s p) (found s2 p2) f)

-- ---- a slot is there

-- a number has this place, and this slot stands there
pub record IsThere (s : Slab Slot) (p : Places) (n key : ℕ) (slot : Slot) : Type 0 where
  pub place : item_at p n ≡ Some key
  pub stands : slab.get s key ≡ Some slot

pub is-found : (s : Slab Slot) (p : Places) (n key : ℕ) (slot : Slot) → IsThere s p n key slot
    → found s p n ≡ Some slot
is-found s p n key slot i = found-at s p n key (Some slot) i.place i.stands

its-number : (s : Slab Slot) (p : Places) (n key : ℕ) (slot : Slot) → AllPlaced s p
    → IsThere s p n key slot → slot.number ≡ n
its-number s p n key slot a i =
    let own = a.placed n key i.place in
    ap (λ x. x.number) (same-some slot own.0 (sym i.stands ∙ own.1)) ∙ own.2

updates : (s : Slab Slot) (key : ℕ) (slot slot2 : Slot) → slab.get s key ≡ Some slot
    → Updates s (with_value s key slot2) key (Some slot2)
updates s key slot slot2 e = Updates-with_value s key slot2 (rw e refl)

-- ---- an open request is counted as ended

-- the counts after an end
record IsAfterEnd (t t2 : Tally) : Type 0 where
  pub requests : t2.requests ≡ t.requests
  pub left_open : t2.left_open ≡ t.left_open - 1
  pub counted : counted_once t2 ≡ t.requests

after-end : (how : Outcome) (t : Tally) → counted_once t ≡ t.requests → 1 ≤ t.left_open
    → IsAfterEnd t (one_ended how t)
after-end (outcome.Answered result payload) t e l =
    record { requests = refl; left_open = refl; counted = omega (arith, e, l) }
after-end outcome.Cancelled t e l =
    record { requests = refl; left_open = refl; counted = omega (arith, e, l) }
after-end outcome.Timeout t e l =
    record { requests = refl; left_open = refl; counted = omega (arith, e, l) }
after-end outcome.Disconnected t e l =
    record { requests = refl; left_open = refl; counted = omega (arith, e, l) }
after-end outcome.Sent t e l =
    record { requests = refl; left_open = refl; counted = omega (arith, e, l) }

-- ---- a slot changes

moved : (n : ℕ) (o : Option Slot) (change : Slot → Option Slot) (f g : ℕ → Option Slot)
    → FindsAt n o f g → option_and_then change (f n) ≡ o → (m : ℕ)
    → g m ≡ cond (eqb m n) (option_and_then change (f m)) (f m)
moved n o change f g at is =
    each-number n (λ m. g m ≡ cond (eqb m n) (option_and_then change (f m)) (f m))
    (at n ∙ ap (λ x. cond (eqb n n) x (f n)) (sym is))
    (λ m ne. at m ∙ ap (λ b. cond b o (f m)) (other-number m n ne)
    ∙ sym (ap (λ b. cond b (option_and_then change (f m)) (f m)) (other-number m n ne)))

module _ (s : Slab Slot) (p : Places) (d : Deadlines) (t : Tally) (n key : ℕ)
    (slot slot2 : Slot) (k : IsKept s p d t) (i : IsThere s p n key slot)
    (number : slot2.number ≡ slot.number) where
  changes : FindsAt n (Some slot2) (found s p) (found (with_value s key slot2) p)
  changes = changed s (with_value s key slot2) p n key slot2 (all-placed s p d t k) i.place
      (updates s key slot slot2 i.stands)

  stays-placed : AllPlaced (with_value s key slot2) p
  stays-placed = changed-placed s (with_value s key slot2) p n key slot2 (all-placed s p d t k)
      i.place (updates s key slot slot2 i.stands)
      (number ∙ its-number s p n key slot (all-placed s p d t k) i)

  pub changed-moves : (x : SlotsKept) (t2 wanted : Tally) (change : Slot → Option Slot)
      → kept_in s p t ≡ x → change slot ≡ Some slot2 → t2 ≡ wanted
      → MovesAt n change wanted x (kept_in (with_value s key slot2) p t2)
  changed-moves x t2 wanted change view is tally = record {
    at = subst (λ y. ChangesAt n change y (kept_in (with_value s key slot2) p t2)) view
        (moved n (Some slot2) change (found s p) (found (with_value s key slot2) p) changes
        (ap (option_and_then change) (is-found s p n key slot i) ∙ is));
    tally_is = tally;
  }

  -- the deadlines stay
  pub changed-kept : slot2.deadline ≡ slot.deadline → slot2.outcome ≡ slot.outcome
      → (slot2.outcome ≡ None → slot.awaited ≡ true → slot2.awaited ≡ true)
      → IsKept (with_value s key slot2) p d t
  changed-kept deadline outcome awaited =
      kept-from s (with_value s key slot2) p p d d t t n (Some slot2) k stays-placed changes
      (timed-same (time_of s p) (time_of (with_value s key slot2) p) d d t times (stays-same d)
      k.timed)
      (record { asked = asked; made = λ x e. k.made n slot (is-found s p n key slot i) })
      (omega arith) k.counted
    where
      times : (m : ℕ) → time_of (with_value s key slot2) p m ≡ time_of s p m
      times = each-number n (λ m. time_of (with_value s key slot2) p m ≡ time_of s p m)
          (time-at s (with_value s key slot2) p p n (Some slot2) changes
          ∙ ap (λ x. cond (is_none x) (Some slot2.deadline) None) outcome
          ∙ ap (λ x. cond (is_none slot.outcome) (Some x) None) deadline
          ∙ sym (ap deadline_of (is-found s p n key slot i)))
          (times-other s (with_value s key slot2) p p n (Some slot2) changes)

      asked : (x : Slot) → Some slot2 ≡ Some x → x.outcome ≡ None → x.awaited ≡ true
      asked x e none =
          let same = same-some slot2 x e in
          let open_now = ap (λ y. y.outcome) same ∙ none in
          ap (λ y. y.awaited) (sym same)
          ∙ awaited open_now
          (k.asked n slot (is-found s p n key slot i) (sym outcome ∙ open_now))

  -- a slot that isn't awaited isn't that of an open request
  pub not-open : slot2.outcome ≡ slot.outcome → slot2.awaited ≡ slot.awaited
      → is_asked_for slot2 ≡ false → is_open_slot (found (with_value s key slot2) p n) ≡ false
  not-open outcome awaited unasked =
      ap is_open_slot
      (finds-here n (Some slot2) (found s p) (found (with_value s key slot2) p) changes)
      ∙ ap is_none outcome ∙ by slot.outcome refl
    where
      by : (o : Option Outcome) → slot.outcome ≡ o → is_none o ≡ false
      by None e =
          let on = awaited ∙ k.asked n slot (is-found s p n key slot i) e in
          absurd (both_ways slot2.awaited
          (or_parts slot2.awaited (nat_lt 0 slot2.names) unasked).0 on)
      by (Some x) e = refl

  -- where an open request ends, its deadline is let go of
  module _ (d2 : Deadlines) (unended : slot.outcome ≡ None) where
    pub is-timed : time_of s p n ≡ Some slot.deadline
    is-timed =
        ap deadline_of (is-found s p n key slot i)
        ∙ ap (λ o. cond (is_none o) (Some slot.deadline) None) unended

    -- one is open
    pub some-open : 1 ≤ t.left_open
    some-open = some-waits (time_of s p) d t k.timed n slot.deadline
        (k.made n slot (is-found s p n key slot i)) is-timed

    pub ended-kept : (how : Outcome) (next : ℕ) (t2 : Tally) → slot2.outcome ≡ Some how
        → Removes n slot.deadline d d2
        → IsNext (time_of (with_value s key slot2) p) n d2.first t2 next → t2 ≡ one_ended how t
        → IsKept (with_value s key slot2) p (record d2 { first = next }) t2
    ended-kept how next t2 over away nx is =
        let tally = after-end how t k.counted some-open in
        let requests = ap (λ x. x.requests) is ∙ tally.requests in
        let left = ap (λ x. x.left_open) is ∙ tally.left_open in
        kept-from s (with_value s key slot2) p p d (record d2 { first = next }) t t2 n
        (Some slot2) k stays-placed changes
        (timed-ended (time_of s p) (time_of (with_value s key slot2) p) d d2 t t2 n
        slot.deadline next k.timed is-timed
        (time-at s (with_value s key slot2) p p n (Some slot2) changes
        ∙ ap (λ o. cond (is_none o) (Some slot2.deadline) None) over)
        (times-other s (with_value s key slot2) p p n (Some slot2) changes)
        (k.made n slot (is-found s p n key slot i)) away nx requests left)
        (record {
          asked = λ x e none. absurd
              (clash how (sym over ∙ ap (λ y. y.outcome) (same-some slot2 x e) ∙ none));
          made = λ x e.
              let low = k.made n slot (is-found s p n key slot i) in omega (arith, low, requests);
        })
        (omega (arith, requests)) (ap counted_once is ∙ tally.counted ∙ sym requests)
      where
        clash : (x : Outcome) → Some x ≡ None → ⊥
        clash x e = absurd (cc e)

-- ---- a slot is let go of

module _ (s s2 : Slab Slot) (p p2 : Places) (d : Deadlines) (t : Tally)
    (n key : ℕ) (k : IsKept s p d t) (place : item_at p n ≡ Some key)
    (u : Updates s s2 key None) (w : Puts (item_at p) (item_at p2) n None) where
  pub gone-kept : is_open_slot (found s p n) ≡ false → IsKept s2 p2 d t
  gone-kept over =
      kept-from s s2 p p2 d d t t n None k
      (gone-placed s s2 p p2 n key (all-placed s p d t k) place u w) goes
      (timed-same (time_of s p) (time_of s2 p2) d d t times (stays-same d) k.timed)
      (record {
        asked = λ x e. absurd (none-some x e);
        made = λ x e. absurd (none-some x e);
      })
      (omega arith) k.counted
    where
      goes : FindsAt n None (found s p) (found s2 p2)
      goes = gone s s2 p p2 n key (all-placed s p d t k) place u w

      untimed : (o : Option Slot) → is_open_slot o ≡ false → deadline_of o ≡ None
      untimed None e = refl
      untimed (Some x) e = ap (λ b. cond b (Some x.deadline) None) e

      times : (m : ℕ) → time_of s2 p2 m ≡ time_of s p m
      times = each-number n (λ m. time_of s2 p2 m ≡ time_of s p m)
          (time-at s s2 p p2 n None goes ∙ sym (untimed (found s p n) over))
          (times-other s s2 p p2 n None goes)

  pub gone-moves : (x : SlotsKept) → kept_in s p t ≡ x
      → MovesAt n is_let_go x.tally x (kept_in s2 p2 t)
  gone-moves x view = record {
    at = subst (λ y. ChangesAt n is_let_go y (kept_in s2 p2 t)) view
        (moved n None is_let_go (found s p) (found s2 p2)
        (gone s s2 p p2 n key (all-placed s p d t k) place u w) (nothing (found s p n)));
    tally_is = ap (λ y. y.tally) view;
  }
    where
      nothing : (o : Option Slot) → option_and_then is_let_go o ≡ None
      nothing None = refl
      nothing (Some x) = refl
