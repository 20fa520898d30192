-- What is kept after a slot comes, and the counts with it.
use Rattle.std.proofs.Common.{◌≡◌, ℕ, ◌+◌, Bool, true, false, cond, [], Option, Some, None}
use Rattle.std.proofs.Common.{eqb, slice_index_or}
use Rattle.std.proofs.Common.{refl, sym, ap, ◌∙◌, arith}
use Rattle.std.specs.Option.{is_none, option_and_then}
use Rattle.std.specs.BTreeMap.{is_at}
use Rattle.std.specs.List.{list_any}
use Rattle.slab.specs.Slab as slab
use Rattle.slab.specs.Slab.{Slab, Updates}
use Rattle.gb_bus.proofs.SlotMaps.{FindsAt, added, added-placed, each-number, found, found-at}
use Rattle.gb_bus.proofs.SlotMaps.{latest, none-some, same-some}
use Rattle.gb_bus.proofs.SlotKept.{all-placed, kept-from, made-timed, time-at, times-other}
use Rattle.gb_bus.proofs.SlotTimes.{count-none, timed-counted, timed-opened, timed-same}
use Rattle.gb_base.specs.declared.outcome.Outcome.TheVariants as outcome
use Rattle.gb_bus.specs.Counting.{counted_once, no_requests, with_one}
use Rattle.gb_bus.specs.Keeping.{Adds, IsKept, Places, Stays, by_latest, deadline_of, time_of}
use Rattle.gb_bus.specs.Slots.{SlotsKept, MakesAs, key_at}
use Rattle.gb_bus.specs.declared.deadlines.Deadlines.{Deadlines}
use Rattle.gb_bus.specs.declared.slots.Slot.{Slot}
use Rattle.gb_bus.specs.declared.tally.Tally.{Tally}
use Rattle.gb_table.specs.Table.{Puts, item_at}

-- ---- a slot comes

-- all is as it was
pub same-kept : (s s2 : Slab Slot) (p p2 : Places) (d d2 : Deadlines) (t : Tally)
    → s2.slots ≡ s.slots → ((n : ℕ) → item_at p2 n ≡ item_at p n) → Stays d d2
    → IsKept s p d t → IsKept s2 p2 d2 t
same-kept s s2 p p2 d d2 t slots place stays k = record {
  placed = λ n key e.
      let old = k.placed n key (sym (place n) ∙ e) in (old.0, under key ∙ old.1, old.2);
  occupied = λ key x e. place x.number ∙ k.occupied key x (sym (under key) ∙ e);
  timed = timed-same (time_of s p) (time_of s2 p2) d d2 t (λ n. ap deadline_of (same n)) stays
      k.timed;
  asked = λ n x e. k.asked n x (sym (same n) ∙ e);
  made = λ n x e. k.made n x (sym (same n) ∙ e);
  counted = k.counted;
}
  where
    under : (key : ℕ) → slab.get s2 key ≡ slab.get s key
    under key = ap (λ xs. slice_index_or xs key None) slots

    same : (n : ℕ) → found s2 p2 n ≡ found s p n
    same n =
        ap (λ xs. option_and_then (λ key. slice_index_or xs key None) (item_at p2 n))
        slots
        ∙ ap (option_and_then (slab.get s)) (place n)

-- none was made
pub none-kept : (s : Slab Slot) (d : Deadlines) → s.slots ≡ [] → d.early.keys ≡ []
    → IsKept s [] d no_requests
none-kept s d slots keys = record {
  placed = λ n key e. absurd (cc e);
  occupied = λ key x e.
      absurd (none-some x (sym (ap (λ xs. slice_index_or xs key None) slots) ∙ e));
  timed = record {
    early = λ c n e.
        absurd (cc (sym (ap (list_any (is_at (by_latest (latest c n)))) keys) ∙ e));
    least = λ n c e. absurd (cc e);
    found = λ e. refl;
    rise = λ m n b c low before after late. absurd (cc before);
    latest = λ n c e. absurd (cc e);
    waiting = sym (count-none (time_of s []) 0 (λ m low. refl));
  };
  asked = λ n x e. absurd (cc e);
  made = λ n x e. absurd (cc e);
  counted = refl;
}

-- a unidirectional request was made
pub sent-kept : (s : Slab Slot) (p : Places) (d : Deadlines) (t t2 : Tally) → IsKept s p d t
    → t2 ≡ with_one (Some outcome.Sent) t → IsKept s p d t2
sent-kept s p d t t2 k is =
    let requests = ap (λ x. x.requests) is in
    let sum = ap counted_once is in record {
      placed = k.placed;
      occupied = k.occupied;
      timed = timed-counted (time_of s p) d t t2 k.timed (made-timed s p d t k) requests
          (ap (λ x. x.left_open) is);
      asked = k.asked;
      made = λ n x e. let low = k.made n x e in omega (arith, low, requests);
      counted = omega (arith, sum, requests, k.counted);
    }

module _ (s : Slab Slot) (p : Places) (d : Deadlines) (t : Tally) (slot : Slot)
    (k : IsKept s p d t) (newest : slot.number ≡ t.requests + 1) where
  -- nothing is kept of a request that wasn't made
  pub unmade : found s p slot.number ≡ None
  unmade = by (found s p slot.number) refl
    where
      by : (o : Option Slot) → found s p slot.number ≡ o → o ≡ None
      by None e = refl
      by (Some x) e = let low = k.made slot.number x e in absurd (omega (arith, low, newest))

  unplaced : item_at p slot.number ≡ None
  unplaced = by (item_at p slot.number) refl
    where
      by : (o : Option ℕ) → item_at p slot.number ≡ o → o ≡ None
      by None e = refl
      by (Some key) e =
          let old = k.placed slot.number key e in
          absurd (none-some old.0
          (sym unmade ∙ found-at s p slot.number key (Some old.0) e old.1))

  -- a place that was put is taken away again
  pub restored : (s2 : Slab Slot) (p2 p3 : Places) (d2 : Deadlines) (o : Option ℕ)
      → s2.slots ≡ s.slots → Puts (item_at p) (item_at p2) slot.number o
      → Puts (item_at p2) (item_at p3) slot.number None → Stays d d2 → IsKept s2 p3 d2 t
  restored s2 p2 p3 d2 o slots put away stays =
      same-kept s s2 p p3 d d2 t slots
      (each-number slot.number (λ m. item_at p3 m ≡ item_at p m) (away.here ∙ sym unplaced)
      (λ m ne. away.others m ne ∙ put.others m ne))
      stays k

  module _ (s2 : Slab Slot) (p2 : Places) (key : ℕ) (free : slab.get s key ≡ None)
      (u : Updates s s2 key (Some slot))
      (w : Puts (item_at p) (item_at p2) slot.number (Some key)) where
    opens : FindsAt slot.number (Some slot) (found s p) (found s2 p2)
    opens = added s s2 p p2 slot.number key slot (all-placed s p d t k) free u w

    pub opened-kept : (d2 : Deadlines) (alone : Bool) (t2 : Tally) → slot.outcome ≡ None
        → slot.awaited ≡ true → alone ≡ eqb t.left_open 0
        → Adds slot.number slot.deadline alone d d2 → t2 ≡ with_one None t → IsKept s2 p2 d2 t2
    opened-kept d2 alone t2 unended awaited at adds is =
        let requests = ap (λ x. x.requests) is in
        let left = ap (λ x. x.left_open) is in
        let sum = ap counted_once is in
        kept-from s s2 p p2 d d2 t t2 slot.number (Some slot) k
        (added-placed s s2 p p2 slot.number key slot (all-placed s p d t k) unplaced free u w refl)
        opens
        (timed-opened (time_of s p) (time_of s2 p2) d d2 t t2 slot.number slot.deadline alone
        k.timed (ap deadline_of unmade)
        (time-at s s2 p p2 slot.number (Some slot) opens
        ∙ ap (λ o. cond (is_none o) (Some slot.deadline) None) unended)
        (times-other s s2 p p2 slot.number (Some slot) opens) newest (made-timed s p d t k)
        requests left at adds)
        (record {
          asked = λ x e none. ap (λ y. y.awaited) (sym (same-some slot x e)) ∙ awaited;
          made = λ x e. omega (arith, newest, requests);
        })
        (omega (arith, requests)) (omega (arith, sum, requests, k.counted))

-- a request that isn't unidirectional is in the slot that came next
pub placed : (oneway : Bool) (slot : Slot) (old new : SlotsKept) → MakesAs oneway slot old new
    → oneway ≡ false → key_at new slot.number ≡ Some old.next
placed false slot old new made e = made.placed
placed true slot old new made e = absurd (cc e)
