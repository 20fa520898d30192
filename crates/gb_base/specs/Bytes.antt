-- Lists of bytes.
use Rattle.std.specs.Prelude.{ℕ, ◌<◌, ◌≤◌, List, length, slice_index}

-- each member is below 256
abbrev pub AreBytes : List ℕ → Type 0
AreBytes xs = (k : ℕ) → slice_index xs k < 256

-- how many a value of `Bytes` holds in itself
abbrev pub inline_size : ℕ
inline_size = 16

-- so few that they take no memory of their own
abbrev pub AreFew : List ℕ → Type 0
AreFew xs = length xs ≤ inline_size
