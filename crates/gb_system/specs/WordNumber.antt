-- A word as a number, with or without the byte of its requester in front.
use Rattle.std.specs.Prelude.{◌≡◌, ◌<◌, ◌+◌, ◌*◌, ℕ, zero, suc, List, ◌∷◌, slice_index}
use Rattle.gb_base.specs.declared.name.Name.{Name}

-- the number that has the first so many bytes of a word as its digits, and zeros past its end
unfoldable pub word_number : ℕ → List ℕ → ℕ
word_number zero word = 0
word_number (suc n) word = word_number n word * 256 + slice_index word n

-- the number of the first 16 bytes
pub record IsNumberOf (number : ℕ) (word : List ℕ) : Type 0 where
  pub is : number ≡ word_number 16 word
  pub bytes : (i : ℕ) → slice_index word i < 256

-- that of a name: its requester, then the first 15 bytes of its word
abbrev pub name_number : Name → ℕ
name_number name = word_number 16 (name.who ∷ name.word)
