-- The search for a free slot.
use Rattle.std.proofs.Common.{◌≡◌, ℕ, ◌+◌, ◌<◌, ◌≤◌, inl, inr, ⊎_elim, Bool, true, false, List}
use Rattle.std.proofs.Common.{[], ◌∷◌, refl, sym, ap, ◌∙◌, subst, arith, Option, Some, None}
use Rattle.std.proofs.lemmas.Bool.{cases_lt}
use Rattle.std.proofs.lemmas.Bool.Decides.{nat_tests}
use Rattle.std.specs.Prelude.{◌==◌, MatchBool}
use mathlib.Core.Option as core
use Rattle.atomic_table.specs.Table.{rest, step}
use Rattle.gb_desk.proofs.Turning.{last_of}
use Rattle.gb_desk.specs.InTurn.{Found, FreeAs, HasTurn, IsTaken, Searched}
use Rattle.gb_desk.specs.Rules.{all_parts}
use Rattle.gb_desk.specs.Slots.{IsEnded, IsOpen, slot_at}
use Rattle.gb_desk.specs.Steps.{IsHeld, Knows, Looks, clearing}
use Rattle.gb_desk.specs.Tickets.{HasTicket, held}
use Rattle.gb_desk.specs.declared.slots.Slot.{Slot}
use Rattle.gb_desk.specs.declared.stored.Stored.{Stored}
use Rattle.gb_desk.specs.declared.view.View.{View}

-- what is lent is what was taken
pub lent_is : (me : Knows) (x : Stored) (h : HasTurn me) → me.1 ≡ (0, x) ∷ rest me.1
    → h.shared ≡ x
lent_is me x h is =
    let slot : ◌≡◌ {A = List (ℕ × Stored)} ((0, h.shared) ∷ []) ((0, x) ∷ rest me.1) =
    sym h.me ∙ is in
    ap (λ l. last_of l x) slot

-- and it is that which the pass knows to have taken
pub lent_out : (me : Knows) (x y : Stored) → HasTurn me → me.1 ≡ (0, x) ∷ rest me.1
    → me.0.out ≡ Some y → y ≡ x
lent_out me x y h is out =
    let took = h.out in
    let same : y ≡ h.shared = cc (took, out) in same ∙ lent_is me x h is

-- a pass that goes on searching has the turn
pub has_turn_still : (v : View) (x : Stored) (i : ℕ) (me : Knows) → v.out ≡ Some x → 0 < v.parts
    → v.clear ≡ None → Searched v x i me → HasTurn me
has_turn_still v x i me out part clear h =
    subst HasTurn (sym h.me) (record {
      shared = x;
      out = out;
      me = refl;
      part = part;
      clear = clear;
    })

-- an open slot is taken
open_taken : (x : Stored) (used : List ℕ) (i : ℕ) (o : Option Slot) → slot_at i x.slots ≡ o
    → IsOpen o → IsTaken x used i
open_taken x used i None is open_ = absurd open_
open_taken x used i (Some z) is open_ = record { slot = z; there = is; why = inl open_ }

-- what was taken is so also where more is known
taken_more : (x : Stored) (used : List ℕ) (n i : ℕ) → IsTaken x used i → IsTaken x (n ∷ used) i
taken_more x used n i t = record {
  slot = t.slot;
  there = t.there;
  why = ⊎_elim (λ open_. inl open_) (λ there. inr (inr there)) t.why;
}

-- those below one more
below_more : (P : ℕ → Type 0) (i : ℕ) → ((j : ℕ) → j < i → P j) → P i → (j : ℕ) → j < i + 1 → P j
below_more P i below here j low =
    ⊎_elim (λ (less : j < i). below j less)
    (λ (same : i ≤ j). subst P (let is : i ≡ j = omega arith in is) here)
    (cases_lt j i)

searched_held : (v : View) (x : Stored) (i : ℕ) (me me' : Knows) → Searched v x i me
    → IsHeld i x me me' → Searched v x (i + 1) me'
searched_held v x i me me' s h = record {
  used = h.slot.number ∷ s.used;
  me = h.is ∙ ap (λ (m : Knows). (record m.0 { used = h.slot.number ∷ m.0.used }, m.1)) s.me;
  taken = below_more (IsTaken x (h.slot.number ∷ s.used)) i
      (λ j low. taken_more x s.used h.slot.number j (s.taken j low))
      (record { slot = h.slot; there = h.there; why = inr (inl refl) });
  own = λ all n j. ⊎_elim
      (λ is. subst (HasTicket v.tickets) (sym is)
      (subst (λ (m : Knows). HasTicket m.0.tickets h.slot.number) s.me
      (h.own (subst (λ (m : Knows). m.0.parts ≡ all_parts) (sym s.me) all))))
      (λ old. s.own all n old) j;
}

searched_open : (v : View) (x : Stored) (i : ℕ) (me me' : Knows) → Searched v x i me
    → IsOpen (slot_at i x.slots) → me' ≡ me → Searched v x (i + 1) me'
searched_open v x i me me' s open_ same = record {
  used = s.used;
  me = same ∙ s.me;
  taken = below_more (IsTaken x s.used) i s.taken
      (open_taken x s.used i (slot_at i x.slots) refl open_);
  own = s.own;
}

pub searched_more : (v : View) (x : Stored) (i : ℕ) (me me' : Knows) → Searched v x i me
    → FreeAs x i me false me' → Searched v x (i + 1) me'
searched_more v x i me me' s free =
    ⊎_elim
    (λ (o : IsOpen (slot_at i x.slots) × (me' ≡ me)). searched_open v x i me me' s o.0 o.1)
    (λ (h : IsHeld i x me me'). searched_held v x i me me' s h)
    free

pub searched_found : (v : View) (x : Stored) (i : ℕ) (me me' : Knows) → i < 256
    → Searched v x i me → FreeAs x i me true me' → Found v x i me'
searched_found v x i me me' low s free = record {
  used = s.used;
  me = free.1.is ∙ ap (λ (m : Knows). (clearing i m.0, m.1)) s.me;
  within = low;
  ended = free.0;
  none = subst (λ (m : Knows). held i m.0.tickets ≡ 0) s.me free.1.none;
}

-- ---- one slot

-- an ended slot, and what the count tells
pub looked_at : (me me' : Knows) (x y : Stored) (i n : ℕ) → HasTurn me
    → me.1 ≡ (0, x) ∷ rest me.1 → me.0.out ≡ Some y → IsEnded (slot_at i x.slots)
    → Looks (step 1 (i + 1) 0 0 core.none) (me.0, (0, x) ∷ rest me.1) n me'
    → FreeAs y i me (n == 0) me'
looked_at me me' x y i n h is out ended looks = by (n == 0) refl
  where
    same : y ≡ x
    same = lent_out me x y h is out

    told : Looks (step 1 (i + 1) 0 0 core.none) me n me'
    told = subst (λ l. Looks (step 1 (i + 1) 0 0 core.none) (me.0, l) n me') (sym is) looks

    by : (b : Bool) → (n == 0) ≡ b → FreeAs y i me b me'
    by true none = (
      subst (λ z. IsEnded (slot_at i z.slots)) (sym same) ended,
      (told i y refl out).0 (grind (arith, nat_tests)),
    )
    by false some = inr ((told i y refl out).1 (λ none. grind (arith, nat_tests)))

-- what a test found
pub test_true : (b : Bool) (P Q : Type 0) → MatchBool b P Q → b ≡ true → P
test_true true P Q is found = is
test_true false P Q is found = absurd cc

-- ---- the loop

-- the pass knows what it took
still_out : (v : View) (x : Stored) (i : ℕ) (me : Knows) → v.out ≡ Some x → Searched v x i me
    → me.0.out ≡ Some x
still_out v x i me out s = ap (λ (m : Knows). m.0.out) s.me ∙ out

pub found_by : (v : View) (x : Stored) (i : ℕ) (b : Bool) (me me' : Knows) → i < 256
    → v.out ≡ Some x → Searched v x i me
    → ((y : Stored) → me.0.out ≡ Some y → FreeAs y i me b me') → b ≡ true → Found v x i me'
found_by v x i b me me' low out s free is =
    searched_found v x i me me' low s
    (subst (λ t. FreeAs x i me t me') is (free x (still_out v x i me out s)))

pub more_by : (v : View) (x : Stored) (i : ℕ) (b : Bool) (me me' : Knows) → v.out ≡ Some x
    → Searched v x i me → ((y : Stored) → me.0.out ≡ Some y → FreeAs y i me b me') → b ≡ false
    → Searched v x (i + 1) me'
more_by v x i b me me' out s free is =
    searched_more v x i me me' s
    (subst (λ t. FreeAs x i me t me') is (free x (still_out v x i me out s)))
