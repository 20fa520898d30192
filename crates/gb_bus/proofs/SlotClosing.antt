-- What closes the rest of a side closes all of it.
use Rattle.std.proofs.Common.{◌≡◌, ◌<◌, ℕ, Bool, true, false, ◌||◌, cond, ◌⊎◌, inl, inr, Option}
use Rattle.std.proofs.Common.{Some, None, List, [], ◌∷◌, eqb, nat_lt, refl, sym, ap, ◌∙◌, arith}
use Rattle.std.proofs.lemmas.Bool.{cases_eq}
use Rattle.std.specs.Option.{option_and_then}
use Rattle.gb_base.specs.declared.outcome.Outcome.{Outcome}
use Rattle.gb_base.specs.declared.outcome.Outcome.TheVariants as outcome
use Rattle.gb_bus.proofs.SlotMaps.{same-number, other-number}
use Rattle.gb_bus.specs.Counting.{one_ended}
use Rattle.gb_bus.specs.Slots.{Closes, SlotsKept, MovesAt, all_disconnected, closes, ended_at}
use Rattle.gb_bus.specs.Slots.{ends_so, forgets, frees, is_open_slot, slot_at}
use Rattle.gb_bus.specs.declared.slots.Slot.{Slot}
use Rattle.gb_machine.specs.Members.{Each}
use Rattle.gb_bus.specs.Listing.{stands_in}

-- ---- one slot, more than once

-- a slot whose identifier is free stays so
stays-free : (late : Bool) (slot : Slot) (how : Outcome) (t : Bool) → nat_lt 0 slot.names ≡ t
    → option_and_then (frees late)
    (cond t (Some (record slot { outcome = Some how; awaited = false })) None)
    ≡ cond t (Some (record slot { outcome = Some how; awaited = false })) None
stays-free late slot how false e = refl
stays-free true slot how true e =
    ap (λ b. cond b (Some (record slot { outcome = Some how; awaited = false })) None) e
stays-free false slot how true e = refl

free-once : (late : Bool) (slot : Slot) → option_and_then (frees late) (forgets slot)
    ≡ forgets slot
free-once late slot = by late slot.outcome
  where
    by : (l : Bool) (o : Option Outcome)
        → option_and_then (frees l) (forgets (record slot { outcome = o }))
        ≡ forgets (record slot { outcome = o })
    by true None = refl
    by false None = refl
    by l (Some v) = stays-free l slot v (nat_lt 0 slot.names) refl

-- and one that was closed stays so, but for what was given up
closed-once : (unended late : Bool) (slot : Slot)
    → option_and_then (closes unended late) (ends_so outcome.Disconnected slot)
    ≡ closes true late slot
closed-once unended late slot = by unended slot.outcome
  where
    over : (u t : Bool) → nat_lt 0 slot.names ≡ t
        → option_and_then (closes u late)
        (cond t (Some (record slot { outcome = Some outcome.Disconnected; awaited = false })) None)
        ≡ cond t (Some (record slot { outcome = Some outcome.Disconnected; awaited = false })) None
    over u false e = refl
    over true true e = stays-free late slot outcome.Disconnected true e
    over false true e = stays-free late slot outcome.Disconnected true e

    by : (u : Bool) (o : Option Outcome)
        → option_and_then (closes u late)
        (ends_so outcome.Disconnected (record slot { outcome = o }))
        ≡ closes true late (record slot { outcome = o })
    by u None = over u (nat_lt 0 slot.names) refl
    by true (Some v) = refl
    by false (Some v) = refl

-- ---- one request more

module _ (a b c : SlotsKept) (x : ℕ) where
  at-other : (change : Slot → Option Slot) (m : ℕ)
      → slot_at b m ≡ cond (eqb m x) (option_and_then change (slot_at a m)) (slot_at a m)
      → (m ≡ x → ⊥) → slot_at b m ≡ slot_at a m
  at-other change m at ne =
      at ∙ ap (λ t. cond t (option_and_then change (slot_at a m)) (slot_at a m))
      (other-number m x ne)

  at-same : (change : Slot → Option Slot) (m : ℕ)
      → slot_at b m ≡ cond (eqb m x) (option_and_then change (slot_at a m)) (slot_at a m)
      → m ≡ x → slot_at b m ≡ option_and_then change (slot_at a m)
  at-same change m at e =
      at ∙ ap (λ t. cond t (option_and_then change (slot_at a m)) (slot_at a m))
      (same-number m x e)

  pub closes-first : (rest late : List ℕ)
      → MovesAt x (ends_so outcome.Disconnected) (ended_at x outcome.Disconnected a) a b
      → Closes rest late b c → Closes (x ∷ rest) late a c
  closes-first rest late first others = record {
    at = λ m. others.at m ∙ by m (stands_in m rest) (stands_in m late) (cases_eq m x);
    tally_is = λ all.
        others.tally_is
        (record { rises = all.rises.1; each = still rest all.rises.0 all.each.1 })
        ∙ ap (all_disconnected rest)
        (first.tally_is
        ∙ ap (λ t. cond t (one_ended outcome.Disconnected a.tally) a.tally) all.each.0);
  }
    where
      twice : (r l : Bool) (o : Option Slot)
          → option_and_then (closes r l) (option_and_then (ends_so outcome.Disconnected) o)
          ≡ option_and_then (closes true l) o
      twice r l None = refl
      twice r l (Some slot) = closed-once r l slot

      by : (m : ℕ) (r l : Bool) → (m ≡ x) ⊎ (m ≡ x → ⊥)
          → option_and_then (closes r l) (slot_at b m)
          ≡ option_and_then (closes (eqb x m || r) l) (slot_at a m)
      by m r l (inl e) =
          ap (option_and_then (closes r l))
          (at-same (ends_so outcome.Disconnected) m (first.at m) e)
          ∙ twice r l (slot_at a m)
          ∙ ap (λ t. option_and_then (closes (t || r) l) (slot_at a m))
          (sym (same-number x m (sym e)))
      by m r l (inr ne) =
          ap (option_and_then (closes r l))
          (at-other (ends_so outcome.Disconnected) m (first.at m) ne)
          ∙ ap (λ t. option_and_then (closes (t || r) l) (slot_at a m))
          (sym (other-number x m (λ e. ne (sym e))))

      still : (ns : List ℕ) → Each (λ n. x < n) ns
          → Each (λ n. is_open_slot (slot_at a n) ≡ true) ns
          → Each (λ n. is_open_slot (slot_at b n) ≡ true) ns
      still [] above all = tt
      still (n ∷ ns) above all = (
        ap is_open_slot
            (at-other (ends_so outcome.Disconnected) n (first.at n)
            (λ e. let low = above.0 in omega (arith, low, e)))
            ∙ all.0,
        still ns above.1 all.1,
      )

  pub forgets-first : (rest : List ℕ) → MovesAt x forgets a.tally a b → Closes [] rest b c
      → Closes [] (x ∷ rest) a c
  forgets-first rest first others = record {
    at = λ m. others.at m ∙ by m (stands_in m rest) (cases_eq m x);
    tally_is = λ all. others.tally_is (record { rises = tt; each = tt }) ∙ first.tally_is;
  }
    where
      twice : (l : Bool) (o : Option Slot)
          → option_and_then (frees l) (option_and_then forgets o) ≡ option_and_then forgets o
      twice l None = refl
      twice l (Some slot) = free-once l slot

      by : (m : ℕ) (l : Bool) → (m ≡ x) ⊎ (m ≡ x → ⊥)
          → option_and_then (closes false l) (slot_at b m)
          ≡ option_and_then (closes false (eqb x m || l)) (slot_at a m)
      by m l (inl e) =
          ap (option_and_then (frees l)) (at-same forgets m (first.at m) e)
          ∙ twice l (slot_at a m)
          ∙ ap (λ t. option_and_then (closes false (t || l)) (slot_at a m))
          (sym (same-number x m (sym e)))
      by m l (inr ne) =
          ap (option_and_then (frees l)) (at-other forgets m (first.at m) ne)
          ∙ ap (λ t. option_and_then (closes false (t || l)) (slot_at a m))
          (sym (other-number x m (λ e. ne (sym e))))

-- nothing is left to close
pub closes-none : (a : SlotsKept) → Closes [] [] a a
closes-none a = record { at = λ m. by (slot_at a m); tally_is = λ all. refl }
  where
    by : (o : Option Slot) → o ≡ option_and_then (closes false false) o
    by None = refl
    by (Some slot) = refl
