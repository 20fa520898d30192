-- Digits that are appended: those of a number below a hundred, and those of bytes in hex.
use Rattle.std.proofs.Common.{◌≡◌, ℕ, ◌+◌, ◌<◌, ◌≤◌, ◌/◌, ◌%◌, List, [], ◌∷◌, ◌++◌, length, drop}
use Rattle.std.proofs.Common.{refl, sym, ap, ◌∙◌, append_assoc, append-nil, slice_index, arith}
use Rattle.std.proofs.lemmas.Fmt.{decimal_digit, decimal_step}
use Rattle.std.proofs.lemmas.List.{drop_all}
use Rattle.std.specs.Fmt.{decimal}
use Rattle.hex.specs.Hex.{encode_lower, encode_with, lower_digits}
use Rattle.hex.proofs.Pairs.{encode_with-drop}
use Rattle.gb_formats.specs.Bytes.{byte_text}

-- a number below ten was appended
pub digit_appended : (old new : List ℕ) (digit n : ℕ) → n < 10 → digit ≡ 48 + n
    → new ≡ old ++ digit ∷ [] → new ≡ old ++ decimal n
digit_appended old new digit n h is added =
    added ∙ ap (λ ds. old ++ ds) (ap (λ d. d ∷ []) is ∙ sym (decimal_digit n h))

two_digits : (n : ℕ) → 10 ≤ n → n < 100 → decimal n ≡ (48 + n / 10) ∷ (48 + n % 10) ∷ []
two_digits n low high =
    decimal_step n low (omega (arith, high))
    ∙ ap (λ ds. ds ++ (48 + n % 10) ∷ []) (decimal_digit (n / 10) (omega (arith, high)))

-- both digits of a number below a hundred were appended
pub pair_appended : (old line new : List ℕ) (tens ones n : ℕ) → 10 ≤ n → n < 100
    → tens ≡ 48 + n / 10 → ones ≡ 48 + n % 10
    → line ≡ old ++ tens ∷ [] → new ≡ line ++ ones ∷ [] → new ≡ old ++ decimal n
pair_appended old line new tens ones n low high t o first second =
    rw (second, first, append_assoc, t, o, two_digits n low high) refl

byte_digits : (b : ℕ) → byte_text b
    ≡ slice_index lower_digits (b / 16) ∷ slice_index lower_digits (b % 16) ∷ []
unfolding encode_with
byte_digits b = refl

-- both digits of a byte were appended
pub byte_appended : (old line new : List ℕ) (high low b : ℕ)
    → high ≡ slice_index lower_digits (b / 16) → low ≡ slice_index lower_digits (b % 16)
    → line ≡ old ++ high ∷ [] → new ≡ line ++ low ∷ [] → new ≡ old ++ byte_text b
byte_appended old line new high low b h l first second =
    rw (second, first, append_assoc, h, l, byte_digits b) refl

-- the digits of one byte more were appended
pub byte_more : (old line new bytes : List ℕ) (i : ℕ) → i < length bytes
    → new ≡ line ++ byte_text (slice_index bytes i)
    → line ++ encode_lower (drop i bytes) ≡ old ++ encode_lower bytes
    → new ++ encode_lower (drop (i + 1) bytes) ≡ old ++ encode_lower bytes
byte_more old line new bytes i h n whole =
    rw (n, append_assoc, byte_digits (slice_index bytes i))
    (rw (encode_with-drop lower_digits bytes i h) at whole)

-- the digits of all bytes were appended
pub bytes_done : (old line bytes : List ℕ) (i : ℕ) → length bytes ≤ i
    → line ++ encode_lower (drop i bytes) ≡ old ++ encode_lower bytes
    → line ≡ old ++ encode_lower bytes
unfolding encode_with
bytes_done old line bytes i h whole = rw (drop_all i bytes h, append-nil) at whole
