-- The front of a buffer that is being written.
use Rattle.std.specs.Prelude.{◌≡◌, ◌≤◌, ℕ, List, ◌++◌, length, drop}

-- These bytes are written to the front of `old`, which keeps its rest.
pub record Fronted (front old new : List ℕ) : Type 0 where
  pub room : length front ≤ length old
  pub bytes : new ≡ front ++ drop (length front) old
