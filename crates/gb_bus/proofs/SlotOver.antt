-- What an end does to a request, by whether it is open.
use Rattle.std.proofs.Common.{◌≡◌, ◌≢◌, ℕ, Bool, true, false, cond, Option, Some, None, eqb, refl}
use Rattle.std.proofs.Common.{sym, ap, ◌∙◌, is_some, not}
use Rattle.std.specs.Option.{is_none, option_and_then}
use Rattle.slab.specs.Slab as slab
use Rattle.slab.specs.Slab.{Slab, with_value}
use Rattle.gb_base.specs.declared.outcome.Outcome.{Outcome}
use Rattle.gb_bus.proofs.SlotKept.{IsThere, changed-moves, is-found}
use Rattle.gb_bus.proofs.SlotMaps.{each-number, other-number}
use Rattle.gb_bus.specs.Counting.{one_ended}
use Rattle.gb_bus.specs.Keeping.{IsKept, Places, kept_in}
use Rattle.gb_bus.specs.Slots.{SlotsKept, MovesAt, ended_at, gives_up_so, is_open_slot, slot_at}
use Rattle.gb_bus.specs.declared.deadlines.Deadlines.{Deadlines}
use Rattle.gb_bus.specs.declared.slots.Slot.{Slot}
use Rattle.gb_bus.specs.declared.tally.Tally.{Tally}
use Rattle.gb_table.specs.Table.{item_at}

-- ---- whether it is open

pub over-nowhere : (s : Slab Slot) (p : Places) (t : Tally) (n : ℕ) (x : SlotsKept)
    → kept_in s p t ≡ x → item_at p n ≡ None → is_open_slot (slot_at x n) ≡ false
over-nowhere s p t n x view none =
    ap (λ y. is_open_slot (slot_at y n)) (sym view)
    ∙ ap (λ o. is_open_slot (option_and_then (slab.get s) o)) none

pub open-there : (s : Slab Slot) (p : Places) (t : Tally) (n key : ℕ) (slot : Slot) (x : SlotsKept)
    → kept_in s p t ≡ x → IsThere s p n key slot → is_open_slot (slot_at x n) ≡ is_none slot.outcome
open-there s p t n key slot x view there =
    ap (λ y. is_open_slot (slot_at y n)) (sym view)
    ∙ ap is_open_slot (is-found s p n key slot there)

pub none-where : (o : Option Outcome) (b : Bool) → b ≡ is_some o → b ≡ true → is_none o ≡ false
none-where None b e f = absurd (cc (sym f ∙ e))
none-where (Some x) b e f = refl

pub none-by : (o : Option Outcome) (b : Bool) → is_some o ≡ not b → is_none o ≡ b
none-by None true e = refl
none-by None false e = absurd (cc e)
none-by (Some x) true e = absurd (cc e)
none-by (Some x) false e = refl

pub some-where : (o : Option Outcome) (b : Bool) → is_some o ≡ not b → b ≡ false → o ≢ None
some-where None b e f n = absurd (cc (ap is_none (sym n) ∙ none-by None b e ∙ f))
some-where (Some x) b e f n = absurd (cc n)

-- ---- what becomes of it

-- a request that isn't open stays
pub stays-over : (n : ℕ) (how : Outcome) (x : SlotsKept) → is_open_slot (slot_at x n) ≡ false
    → MovesAt n (gives_up_so how) (ended_at n how x) x x
stays-over n how x over = record {
  at = each-number n
      (λ m. slot_at x m
      ≡ cond (eqb m n) (option_and_then (gives_up_so how) (slot_at x m)) (slot_at x m))
      (by (eqb n n))
      (λ m ne. sym (ap (λ b. cond b (option_and_then (gives_up_so how) (slot_at x m))
      (slot_at x m)) (other-number m n ne)));
  tally_is = sym (ap (λ b. cond b (one_ended how x.tally) x.tally) over);
}
  where
    stays : (o : Option Slot) → is_open_slot o ≡ false → o ≡ option_and_then (gives_up_so how) o
    stays None e = refl
    stays (Some slot) e =
        sym (ap (λ b. cond b (Some (record slot { outcome = Some how })) (Some slot)) e)

    by : (b : Bool)
        → slot_at x n
        ≡ cond b (option_and_then (gives_up_so how) (slot_at x n)) (slot_at x n)
    by true = stays (slot_at x n) over
    by false = refl

module _ (s : Slab Slot) (p : Places) (d : Deadlines) (t : Tally) (n key : ℕ)
    (slot : Slot) (k : IsKept s p d t) (i : IsThere s p n key slot) (how : Outcome) (x : SlotsKept)
    (view : kept_in s p t ≡ x) where
  -- so does its slot
  pub moves-over : is_none slot.outcome ≡ false
      → MovesAt n (gives_up_so how) (ended_at n how x) x (kept_in (with_value s key slot) p t)
  moves-over over =
      changed-moves s p d t n key slot slot k i refl x t (ended_at n how x) (gives_up_so how) view
      (ap (λ b. cond b (Some (record slot { outcome = Some how })) (Some slot)) over)
      (ap (λ y. y.tally) view
      ∙ sym (ap (λ b. cond b (one_ended how x.tally) x.tally)
      (open-there s p t n key slot x view i ∙ over)))

  -- an open one ends
  pub moves-open : (slot2 : Slot) (t2 : Tally) → slot.outcome ≡ None
      → slot2 ≡ record slot { outcome = Some how } → t2 ≡ one_ended how t
      → MovesAt n (gives_up_so how) (ended_at n how x) x (kept_in (with_value s key slot2) p t2)
  moves-open slot2 t2 unended is tally =
      changed-moves s p d t n key slot slot2 k i (ap (λ y. y.number) is) x t2 (ended_at n how x)
      (gives_up_so how) view
      (ap (λ b. cond b (Some (record slot { outcome = Some how })) (Some slot))
      (ap is_none unended)
      ∙ ap Some (sym is))
      (tally ∙ ap (λ y. one_ended how y.tally) view
      ∙ sym (ap (λ b. cond b (one_ended how x.tally) x.tally)
      (open-there s p t n key slot x view i ∙ ap is_none unended)))
