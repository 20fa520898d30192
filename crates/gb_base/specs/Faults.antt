-- Counts of faults.
use Rattle.std.specs.Prelude.{ℕ, ◌<◌, ◌≡◌, ◌⊎◌}

-- a count rose; one that stands at the last number of 64 bits counts as one that rose
abbrev pub Rose : ℕ → ℕ → Type 0
Rose before after = before < after ⊎ after ≡ 18_446_744_073_709_551_615
