-- The least bit of a word, from a place on, that isn't set.
use Rattle.std.proofs.Common.{◌≡◌, ◌≢◌, ◌<◌, ◌≤◌, ℕ, ◌+◌, ◌-◌, ◌*◌, ◌%◌, ◌^◌, max, bit_or, true}
use Rattle.std.proofs.Common.{false, inl, inr, ◌⊎◌, leb, sym, ap, ◌∙◌, subst, arith, w64}
use Rattle.std.proofs.lemmas.Bool.Decides.{leb_tells}
use Rattle.std.proofs.lemmas.Nat.{one_shl, or_lt, pow_below}
use Rattle.std.proofs.lemmas.Nat.Bits.{bit_at_ones, bit_at_ones_above, bit_at_or, bit_at-lt}
use Rattle.std.proofs.lemmas.Nat.Bits.{bit_at-trailing_ones}
use Rattle.std.specs.Int.{bit_at, trailing_ones}
use Rattle.gb_labels.specs.Marks.{AreSet, IsFirstUnset}

-- with the bits below a place set too
below : (word from j : ℕ) → j < from → bit_at (bit_or word (2 ^ from - 1)) j ≡ 1
below word from j h =
    let low = bit_at-lt word j in
    bit_at_or word (2 ^ from - 1) j ∙ ap (max (bit_at word j)) (bit_at_ones from j h)
    ∙ omega (arith, low)

behind : (word from j : ℕ) → from ≤ j → bit_at (bit_or word (2 ^ from - 1)) j ≡ bit_at word j
behind word from j h =
    bit_at_or word (2 ^ from - 1) j ∙ ap (max (bit_at word j)) (bit_at_ones_above from j h)
    ∙ omega arith

-- the mask as it is computed
mask : (from : ℕ) → from < 64 → 1 * 2 ^ from % 2 ^ 64 - 1 ≡ 2 ^ from - 1
mask from h = ap (λ n. n - 1) (one_shl from 64 h)

pub all_set : (word from : ℕ) → from < 64 → bit_or word (1 * 2 ^ from % 2 ^ 64 - 1) ≡ 2 ^ 64 - 1
    → AreSet word from 64
all_set word from h e = λ j low high.
    sym (behind word from j low) ∙ ap (λ m. bit_at (bit_or word m) j) (sym (mask from h))
    ∙ ap (λ m. bit_at m j) e ∙ bit_at_ones 64 j high

-- the least bit that isn't set is none of those below the place
not_below : (word from i : ℕ) → bit_at (bit_or word (2 ^ from - 1)) i ≡ 0 → from ≤ i
not_below word from i unset = by (leb_tells from i)
  where
    by : ((leb from i ≡ true) × (from ≤ i)) ⊎ ((leb from i ≡ false) × (i < from)) → from ≤ i
    by (inl p) = p.1
    by (inr p) = let set = below word from i p.1 in absurd (omega (arith, set, unset))

found : (word from m : ℕ) → from < 64 → word < 2 ^ 64 → m ≡ bit_or word (2 ^ from - 1)
    → m ≢ 2 ^ 64 - 1
    → IsFirstUnset word from (trailing_ones w64 m)
found word from m h fits is more =
    let mask_fits : 2 ^ from - 1 < 2 ^ 64 = omega (arith, pow_below from 64 h) in
    let all_fits = or_lt 64 word (2 ^ from - 1) fits mask_fits in
    let small : m + 1 < 2 ^ 64 = omega (arith, is, more, all_fits) in
    let place = bit_at-trailing_ones w64 m small in
    let high = not_below word from (trailing_ones w64 m)
    (ap (λ n. bit_at n (trailing_ones w64 m)) (sym is) ∙ place.1) in
    record {
      behind = high;
      within = place.0;
      unset = sym (behind word from (trailing_ones w64 m) high)
          ∙ ap (λ n. bit_at n (trailing_ones w64 m)) (sym is) ∙ place.1;
      before = λ j low less. sym (behind word from j low) ∙ ap (λ n. bit_at n j) (sym is)
          ∙ place.2 j less;
    }

pub first_found : (word from m i : ℕ) → from < 64 → word < 2 ^ 64
    → m ≡ bit_or word (1 * 2 ^ from % 2 ^ 64 - 1) → m ≢ 2 ^ 64 - 1 → i ≡ trailing_ones w64 m
    → IsFirstUnset word from i
first_found word from m i h fits is more at =
    subst (λ k. IsFirstUnset word from k) (sym at)
    (found word from m h fits (is ∙ ap (bit_or word) (mask from h)) more)
