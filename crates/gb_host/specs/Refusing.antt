-- What a call answers that may be refused.
use Rattle.std.specs.Prelude.{◌≡◌, ℕ, Option, Some, None, option_map, Result, Ok, Err}
use Rattle.gb_base.specs.declared.interface.Link.{Link}
use Rattle.gb_base.specs.declared.refusal.Refusal.{Refusal}

-- The answer is Ok exactly where nothing is refused, and else the refusal.
abbrev pub RefusesAs : {A : Type 0} → Option Refusal → Result A Refusal → Type 0
RefusesAs refusal (Ok done) = refusal ≡ None
RefusesAs refusal (Err why) = refusal ≡ Some why

-- The answer is the number of a connection exactly where nothing is refused, and else the refusal.
abbrev pub SendsAs : Option Refusal → Option Link → Result ℕ Refusal → Type 0
SendsAs refusal link (Ok k) = (refusal ≡ None) × (option_map (λ l. l.connection) link ≡ Some k)
SendsAs refusal link (Err why) = refusal ≡ Some why
