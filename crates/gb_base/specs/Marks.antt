-- Marks as bits of words of 64.
use Rattle.std.specs.Prelude.{ℕ, ◌/◌, ◌%◌, ◌==◌, Bool, List, slice_index}
use Rattle.std.specs.Int.{bit_at}

-- The bit of an identifier is set. A word that isn't there has no bit set.
abbrev pub is_marked : List ℕ → ℕ → Bool
is_marked words id = bit_at (slice_index words (id / 64)) (id % 64) == 1
