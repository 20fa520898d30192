-- One identifier more has a mark.
use Rattle.std.proofs.Common.{◌≡◌, ◌≢◌, ◌<◌, ℕ, ◌*◌, ◌/◌, ◌%◌, ◌^◌, ◌==◌, true, false, ◌⊎◌, inl}
use Rattle.std.proofs.Common.{inr, eqb, List, length, slice_index, slice_set, bit_or, sym, ap, ◌∙◌}
use Rattle.std.proofs.Common.{arith}
use Rattle.std.proofs.lemmas.Bool.Decides.{eqb_tells}
use Rattle.std.proofs.lemmas.Nat.{mod_below}
use Rattle.std.specs.Prelude.{◌||◌}
use Rattle.gb_base.proofs.Marks.{Writes, mark_here, mark_others, sets}
use Rattle.gb_manifest.specs.Declarations.{is_met}

-- the word of an identifier, with its mark
abbrev with_mark : List ℕ → ℕ → ℕ
with_mark words id = bit_or (slice_index words (id / 64)) (1 * 2 ^ (id % 64) % 2 ^ 64)

pub met_more : (words : List ℕ) (id k : ℕ) → id / 64 < length words
    → is_met (slice_set words (id / 64) (with_mark words id)) k ≡ (id == k || is_met words k)
met_more words id k within = by (eqb_tells id k)
  where
    writes : Writes (slice_index words (id / 64)) (with_mark words id) (id % 64) 1
    writes = sets _ _ (mod_below id 64 (omega arith))

    by : ((eqb id k ≡ true) × (id ≡ k)) ⊎ ((eqb id k ≡ false) × (id ≢ k))
        → is_met (slice_set words (id / 64) (with_mark words id)) k ≡ (id == k || is_met words k)
    by (inl p) =
        ap (is_met (slice_set words (id / 64) (with_mark words id))) (sym p.1)
        ∙ mark_here words id _ 1 within writes
        ∙ ap (λ b. b || is_met words k) (sym p.0)
    by (inr p) =
        mark_others words id _ 1 k within writes (λ e. p.1 (sym e))
        ∙ ap (λ b. b || is_met words k) (sym p.0)
