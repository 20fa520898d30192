-- Marks as bits of words, where one is written.
use Rattle.std.proofs.Common.{◌≡◌, ◌≢◌, ◌<◌, ℕ, ◌+◌, ◌*◌, ◌/◌, ◌%◌, ◌^◌, ◌==◌, true, false, ◌⊎◌}
use Rattle.std.proofs.Common.{inl, inr, eqb, List, length, slice_index, slice_set, bit_and, bit_or}
use Rattle.std.proofs.Common.{get_or-set_same, get_or-set_other, sym, ap, ◌∙◌, arith, w64}
use Rattle.std.proofs.lemmas.Bool.Decides.{eqb_tells}
use Rattle.std.proofs.lemmas.Nat.{div-add-mod', mod_below}
use Rattle.std.proofs.lemmas.Nat.Bits.{bit_at_clear_other, bit_at_clear_same, bit_at_set_other}
use Rattle.std.proofs.lemmas.Nat.Bits.{bit_at_set_same}
use Rattle.std.specs.Int.{bit_at, bit_not}
use Rattle.gb_base.specs.Marks.{is_marked}

-- a word is written so that one mark changes
pub record Writes (word new bit value : ℕ) : Type 0 where
  pub here : bit_at new bit ≡ value
  pub others : (j : ℕ) → j < 64 → j ≢ bit → bit_at new j ≡ bit_at word j

pub sets : (word bit : ℕ) → bit < 64 → Writes word (bit_or word (1 * 2 ^ bit % 2 ^ 64)) bit 1
sets word bit h = record {
  here = bit_at_set_same w64 word bit h;
  others = λ j _ ne. bit_at_set_other w64 word bit h j ne;
}

pub clears : (word bit : ℕ) → bit < 64
    → Writes word (bit_and word (bit_not w64 (1 * 2 ^ bit % 2 ^ 64))) bit 0
clears word bit h = record {
  here = bit_at_clear_same w64 word bit h;
  others = λ j within ne. bit_at_clear_other w64 word bit h j within ne;
}

-- the mark of an identifier whose word is written
pub mark_here : (words : List ℕ) (label new value : ℕ) → label / 64 < length words
    → Writes (slice_index words (label / 64)) new (label % 64) value
    → is_marked (slice_set words (label / 64) new) label ≡ (value == 1)
mark_here words label new value h w =
    ap (λ n. bit_at n (label % 64) == 1) (get_or-set_same words (label / 64) new 0 h)
    ∙ ap (λ n. n == 1) w.here

-- the marks of the others
pub mark_others : (words : List ℕ) (label new value other : ℕ) → label / 64 < length words
    → Writes (slice_index words (label / 64)) new (label % 64) value → other ≢ label
    → is_marked (slice_set words (label / 64) new) other ≡ is_marked words other
mark_others words label new value other h w ne = by (eqb_tells (other / 64) (label / 64))
  where
    apart : other / 64 ≡ label / 64 → other % 64 ≢ label % 64
    apart same e =
        ne (sym (div-add-mod' other 64) ∙ ap (λ q. q * 64 + other % 64) same
        ∙ ap (λ r. label / 64 * 64 + r) e ∙ div-add-mod' label 64)

    by : ((eqb (other / 64) (label / 64) ≡ true) × (other / 64 ≡ label / 64))
        ⊎ ((eqb (other / 64) (label / 64) ≡ false) × (other / 64 ≢ label / 64))
        → is_marked (slice_set words (label / 64) new) other ≡ is_marked words other
    by (inl p) =
        ap (λ q. bit_at (slice_index (slice_set words (label / 64) new) q) (other % 64) == 1) p.1
        ∙ ap (λ n. bit_at n (other % 64) == 1) (get_or-set_same words (label / 64) new 0 h)
        ∙ ap (λ n. n == 1) (w.others (other % 64) (mod_below other 64 (omega arith)) (apart p.1))
        ∙ ap (λ q. bit_at (slice_index words q) (other % 64) == 1) (sym p.1)
    by (inr p) =
        ap (λ n. bit_at n (other % 64) == 1)
        (get_or-set_other words (label / 64) (other / 64) new 0 p.1)
