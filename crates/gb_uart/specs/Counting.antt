-- Spending credits and giving them back.
use Rattle.std.specs.Prelude.{◌≡◌, ℕ, Option, Some, None, Result, Ok, Err}

-- The credits become what a definition says, or are as before where it says none.
abbrev pub CountsAs : {A E : Type 0} → Option ℕ → ℕ → ℕ → Result A E → Type 0
CountsAs after old new (Ok done) = after ≡ Some new
CountsAs after old new (Err refused) = (after ≡ None) × (new ≡ old)
