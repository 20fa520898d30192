-- What a line of a script says.
use Rattle.std.specs.Prelude.{ℕ, ◌+◌, Bool, ◌&&◌, nat_le, if◌then◌else◌, Option, Some, None, Result}
use Rattle.std.specs.Prelude.{Err, List, [], ◌∷◌, length}
use Rattle.std.specs.List.{list_all}
use Rattle.gb_base.specs.declared.reasons.LineReason.{LineReason}
use Rattle.gb_base.specs.declared.reasons.LineReason.TheVariants as bad
use Rattle.gb_formats.specs.Grammar.{Said, asked_for}
use Rattle.gb_formats.specs.Words.{words}

-- how many bytes a line may have
abbrev pub longest_line : ℕ
longest_line = 8192

-- a byte that a line may have: printable ASCII
abbrev pub is_printable : ℕ → Bool
is_printable b = nat_le 32 b && nat_le b 126

-- not too long, and without a bad byte
abbrev pub is_plain : List ℕ → Bool
is_plain line = nat_le (length line) longest_line && list_all is_printable line

-- the place of the first bad byte, where the first of these bytes has this place
abbrev pub bad_place : ℕ → List ℕ → Option ℕ
bad_place place [] = None
bad_place place (b ∷ bs) =
    let later = bad_place (place + 1) bs in if is_printable b then later else Some place

-- what a line is by its words, unless it has a bad byte
abbrev pub unless_bad : {A : Type 0} → Option ℕ → Result A LineReason → Result A LineReason
unless_bad None by_words = by_words
unless_bad (Some place) by_words = Err (bad.BadByte place)

-- What a line is: its length comes first, then its bytes, then what it is by its words.
abbrev pub by_bytes : {A : Type 0} → List ℕ → Result A LineReason → Result A LineReason
by_bytes line by_words =
    if nat_le (length line) longest_line then unless_bad (bad_place 1 line) by_words
    else Err bad.Long

-- What a line says to requester `who`.
abbrev pub judged : ℕ → List ℕ → Said
judged who line = by_bytes line (asked_for who (words line))
