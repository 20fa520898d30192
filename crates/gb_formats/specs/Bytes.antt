-- Numbers as bytes, and bytes as text.
use Rattle.std.specs.Prelude.{ℕ, List, [], ◌∷◌, ◌++◌, codes}
use Rattle.byteorder.specs.Endian.{little_bytes}
use Rattle.hex.specs.Hex.{encode_lower}

-- the two bytes of a number, the lowest first
abbrev pub le16 : ℕ → List ℕ
le16 n = little_bytes 2 n

-- bytes as lower case hex digits, and `-` where there are none
abbrev pub hex_text : List ℕ → List ℕ
hex_text [] = codes "-"
hex_text (b ∷ bs) = encode_lower (b ∷ bs)

-- a byte as two hex digits
abbrev pub byte_text : ℕ → List ℕ
byte_text b = encode_lower (b ∷ [])

-- pieces of text in a row
abbrev pub joined : List (List ℕ) → List ℕ
joined [] = []
joined (x ∷ []) = x
joined (x ∷ y ∷ xs) = x ++ joined (y ∷ xs)
