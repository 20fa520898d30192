-- Marks as bits of words.
use Rattle.std.specs.Prelude.{◌≡◌, ◌<◌, ◌≤◌, ℕ, Option, Some, None}
use Rattle.std.specs.Int.{bit_at}

-- the bits from a place up to another are set
abbrev pub AreSet : ℕ → ℕ → ℕ → Type 0
AreSet word from to = (j : ℕ) → from ≤ j → j < to → bit_at word j ≡ 1

-- the least bit from a place on that isn't set
pub record IsFirstUnset (word from i : ℕ) : Type 0 where
  pub behind : from ≤ i
  pub within : i < 64
  pub unset : bit_at word i ≡ 0
  pub before : AreSet word from i

-- None comes exactly where all bits from the place on are set.
abbrev pub FindsUnset : ℕ → ℕ → Option ℕ → Type 0
FindsUnset word from (Some i) = IsFirstUnset word from i
FindsUnset word from None = AreSet word from 64
