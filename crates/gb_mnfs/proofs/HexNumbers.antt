-- How a number in hex is read, digit by digit.
use Rattle.std.proofs.Common.{◌≡◌, ℕ, zero, suc, ◌+◌, ◌*◌, ◌<◌, List, ◌∷◌, length, get_or}
use Rattle.std.proofs.Common.{drop, sym, ap, ◌∙◌, Some, None, arith, add-one}
use Rattle.std.specs.Prelude.{option_and_then}
use Rattle.std.proofs.Math.Seq.{drop-cons}
use Rattle.hex.specs.Hex.{hex_digit_value}
use Rattle.gb_formats.specs.SourceValues.{hex_after}

-- the least number that has more than so many digits
abbrev pub above : ℕ → ℕ
above zero = 1
above (suc n) = 16 * above n

-- a number of at most three digits takes one more
pub small : (n x : ℕ) → n < 4 → x < above n → x < 4096
small zero x h b = omega (arith, b)
small (suc zero) x h b = omega (arith, b)
small (suc (suc zero)) x h b = omega (arith, b)
small (suc (suc (suc zero))) x h b = omega (arith, b)
small (suc (suc (suc (suc n)))) x h b = absurd (omega (arith, h))

-- a digit more
pub grown : (n x d : ℕ) → x < above n → d < 16 → x * 16 + d < above (n + 1)
grown n x d b h = rw add-one (omega (arith, b, h))

more : (x d v : ℕ) (ds : List ℕ) → hex_digit_value d ≡ Some v
    → hex_after x (d ∷ ds) ≡ hex_after (x * 16 + v) ds
more x d v ds e = ap (λ o. option_and_then (λ value. hex_after (x * 16 + value) ds) o) e

none : (x d : ℕ) (ds : List ℕ) → hex_digit_value d ≡ None → hex_after x (d ∷ ds) ≡ None
none x d ds e = ap (λ o. option_and_then (λ value. hex_after (x * 16 + value) ds) o) e

-- a digit was read
pub digit_more : (w : List ℕ) (i x v : ℕ) → i < length w → hex_digit_value (get_or w i 0) ≡ Some v
    → hex_after x (drop i w) ≡ hex_after 0 w
    → hex_after (x * 16 + v) (drop (i + 1) w) ≡ hex_after 0 w
digit_more w i x v h e read =
    let at : hex_after x (drop i w) ≡ hex_after (x * 16 + v) (drop (suc i) w) =
    rw (drop-cons w i 0) (more x (get_or w i 0) v (drop (suc i) w) e) in
    rw add-one (sym at ∙ read)

-- a byte that is no digit
pub no_digit : (w : List ℕ) (i x : ℕ) → i < length w → hex_digit_value (get_or w i 0) ≡ None
    → hex_after x (drop i w) ≡ hex_after 0 w → hex_after 0 w ≡ None
no_digit w i x h e read =
    let at : hex_after x (drop i w) ≡ None =
    rw (drop-cons w i 0) (none x (get_or w i 0) (drop (suc i) w) e) in
    sym read ∙ at
