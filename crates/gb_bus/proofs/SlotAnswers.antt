-- Of an answer to a request without a name the slot keeps nothing.
use Rattle.std.proofs.Common.{◌≡◌, ◌≢◌, ◌==◌, ℕ, Bool, true, false, cond, ◌⊎◌, inl, inr}
use Rattle.std.proofs.Common.{Option, Some, None, option_and_then, is_none, List, [], refl, sym}
use Rattle.std.proofs.Common.{ap, ◌∙◌, subst}
use Rattle.std.proofs.lemmas.Bool.{cases_eq}
use Rattle.std.specs.Prelude.{nat_lt}
use Rattle.gb_base.specs.declared.outcome.Outcome.TheVariants as outcome
use Rattle.gb_bus.proofs.Entries.{other-number}
use Rattle.gb_bus.specs.Slots.{SlotsKept, MovesAt, ended_at, ends_so, is_named, slot_at}
use Rattle.gb_bus.specs.declared.slots.Slot.{Slot}

-- so its slot is the same whatever is kept
ends-same : (code : ℕ) (payload : List ℕ) (o : Option Slot)
    → option_and_then (ends_so (outcome.Answered code (cond (is_named o) payload []))) o
    ≡ option_and_then (ends_so (outcome.Answered code payload)) o
ends-same code payload None = refl
ends-same code payload (Some slot) =
    ap (λ o. cond (is_none slot.outcome) o (Some slot)) (by (nat_lt 0 slot.names))
  where
    ended : List ℕ → Slot
    ended kept = record slot { outcome = Some (outcome.Answered code kept); awaited = false }

    by : (named : Bool) → cond named (Some (ended (cond named payload []))) None
        ≡ cond named (Some (ended payload)) None
    by true = refl
    by false = refl

pub answer-moves : (old new : SlotsKept) (n code : ℕ) (payload kept : List ℕ)
    → kept ≡ cond (is_named (slot_at old n)) payload []
    → MovesAt n (ends_so (outcome.Answered code kept))
    (ended_at n (outcome.Answered code kept) old) old new
    → MovesAt n (ends_so (outcome.Answered code payload))
    (ended_at n (outcome.Answered code payload) old) old new
answer-moves old new n code payload kept is moves = record {
  at = λ m. moves.at m ∙ by m (cases_eq m n);
  tally_is = moves.tally_is;
}
  where
    ended : List ℕ → ℕ → Option Slot
    ended bytes m = option_and_then (ends_so (outcome.Answered code bytes)) (slot_at old m)

    by : (m : ℕ) → (m ≡ n) ⊎ (m ≢ n) → cond (m == n) (ended kept m) (slot_at old m)
        ≡ cond (m == n) (ended payload m) (slot_at old m)
    by m (inl same) =
        ap (λ o. cond (m == n) o (slot_at old m))
        (subst (λ j. ended kept j ≡ ended payload j) (sym same)
        (ap (λ bytes. ended bytes n) is ∙ ends-same code payload (slot_at old n)))
    by m (inr ne) =
        ap (λ b. cond b (ended kept m) (slot_at old m)) (other-number m n ne)
        ∙ sym (ap (λ b. cond b (ended payload m) (slot_at old m)) (other-number m n ne))
