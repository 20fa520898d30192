-- Keys, numbers and strings in the text of a manifest.
use Rattle.std.specs.Prelude.{ℕ, zero, suc, ◌+◌, ◌*◌, ◌==◌, nat_le, not, ◌&&◌}
use Rattle.std.specs.Prelude.{if◌then◌else◌, Option, Some, None, option_map, option_and_then}
use Rattle.std.specs.Prelude.{List, [], ◌∷◌, ◌++◌, length, take, drop, slice_index, codes}
use Rattle.std.specs.Bool.{then_some}
use Rattle.std.specs.Str.{bytes_eq}
use Rattle.hex.specs.Hex.{hex_digit_value}
use Rattle.gb_formats.specs.WordValues.{number_word}

-- ---- spaces at both ends don't count

-- without the spaces in front
abbrev pub without_front : List ℕ → List ℕ
without_front [] = []
without_front (b ∷ bs) = if b == 32 then without_front bs else b ∷ bs

-- a byte in front of what has no spaces at its end
abbrev pub with_first : ℕ → List ℕ → List ℕ
with_first b [] = if b == 32 then [] else b ∷ []
with_first b (c ∷ cs) = b ∷ c ∷ cs

-- without the spaces at the end
abbrev pub without_back : List ℕ → List ℕ
without_back [] = []
without_back (b ∷ bs) = with_first b (without_back bs)

-- Without the spaces at both ends.
abbrev pub trimmed : List ℕ → List ℕ
trimmed line = without_back (without_front line)

-- ---- lines are parted in two

-- the two parts, where `front` has been read of the first
abbrev pub parted_after : ℕ → List ℕ → List ℕ → Option (List ℕ × List ℕ)
parted_after by front [] = None
parted_after by front (b ∷ bs) =
    let later = parted_after by (front ++ b ∷ []) bs in
    if b == by then Some (front, bs) else later

-- What stands before the first such byte, and what behind it; None where there is none.
abbrev pub parted : ℕ → List ℕ → Option (List ℕ × List ℕ)
parted by line = parted_after by [] line

-- ---- numbers

-- the number that hex digits spell, in either case, where `front` is that of the digits before them
abbrev pub hex_after : ℕ → List ℕ → Option ℕ
hex_after front [] = Some front
hex_after front (d ∷ ds) =
    option_and_then (λ value. hex_after (front * 16 + value) ds) (hex_digit_value d)

-- the number that one to four hex digits spell
abbrev pub four_digits : List ℕ → Option ℕ
four_digits ds = if nat_le 1 (length ds) && nat_le (length ds) 4 then hex_after 0 ds else None

-- a number that is at most the greatest
abbrev pub at_most : ℕ → Option ℕ → Option ℕ
at_most greatest n = option_and_then (λ n. then_some (nat_le n greatest) n) n

-- A number up to the greatest: `0x` with one to four hex digits; or decimal, with no sign and no
-- leading zero but `0` itself.
abbrev pub source_number : ℕ → List ℕ → Option ℕ
source_number greatest w =
    if bytes_eq (take 2 w) (codes "0x") then at_most greatest (four_digits (drop 2 w))
    else number_word 0 greatest w

-- ---- strings

-- the byte that two hex digits spell, and the three places that it takes behind its backslash
abbrev pub hex_byte : ℕ → ℕ → Option (ℕ × ℕ)
hex_byte high low = option_map (λ byte. (byte, 3)) (hex_after 0 (high ∷ low ∷ []))

-- The byte of a string that its text has at the front, and how many places it takes besides the
-- first: a byte as it is, `\\` for a backslash, or `\xNN`.
abbrev pub first_byte : List ℕ → Option (ℕ × ℕ)
first_byte w =
    if not (slice_index w 0 == 92) then Some (slice_index w 0, 0)
    else if slice_index w 1 == 92 then Some (92, 1)
    else if slice_index w 1 == 120 then hex_byte (slice_index w 2) (slice_index w 3)
    else None

-- the string goes on behind its next byte
abbrev pub string_then : Option (ℕ × ℕ) → (ℕ → ℕ → Option (List ℕ)) → Option (List ℕ)
string_then None later = None
string_then (Some (byte, more)) later = later byte more

-- the string, where `front` has been read of it, after so many bytes of its text are passed over
unfoldable pub string_after : List ℕ → ℕ → List ℕ → Option (List ℕ)
string_after front skip [] = Some front
string_after front (suc skip) (b ∷ bs) = string_after front skip bs
string_after front zero (b ∷ bs) =
    string_then (first_byte (b ∷ bs)) (λ byte more. string_after (front ++ byte ∷ []) more bs)

-- The bytes of the string that a text spells.
abbrev pub source_string : List ℕ → Option (List ℕ)
source_string text = string_after [] 0 text
