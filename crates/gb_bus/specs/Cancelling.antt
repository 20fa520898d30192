-- What a bus answers where a request is given up.
use Rattle.std.specs.Prelude.{◌≡◌, ℕ, true, false, Option, Some, None, Result, Ok, Err, []}
use Rattle.gb_base.specs.declared.outcome.Outcome.{Outcome}
use Rattle.gb_base.specs.declared.outcome.Outcome.TheVariants as outcome
use Rattle.gb_bus.specs.Stands.{Around, Stands}
use Rattle.gb_bus.specs.declared.answers.AlreadyEnded.{AlreadyEnded}
use Rattle.gb_bus.specs.declared.bus.Bus.{Bus}
use Rattle.gb_machine.specs.Bus as machine
use Rattle.gb_machine.specs.Bus.{is_open}
use Rattle.gb_machine.specs.Lists.{first}
use Rattle.gb_machine.specs.Requests.{gave_up, is_due, open_requests}

-- an open request was given up, and ended so
pub record GivesUp (around : Around) (new : Bus) (how : Outcome) (n : ℕ) (b : machine.Bus) : Type
    0 where
  pub unended : is_open n b ≡ true
  pub stands : Stands around new (gave_up n how b)

-- a request had ended before, or wasn't made
pub record GivesUpNothing (around : Around) (new : Bus) (n : ℕ) (b : machine.Bus) : Type
    0 where
  pub over : is_open n b ≡ false
  pub stands : Stands around new b

-- By cases on the answer.
abbrev pub GivesUpAs : Around → Bus → Outcome → ℕ → machine.Bus → Result Unit AlreadyEnded
    → Type 0
GivesUpAs around new how n b (Ok done) = GivesUp around new how n b
GivesUpAs around new how n b (Err fault) = GivesUpNothing around new n b

-- the open request with the least number whose deadline came was given up
pub record Expires (around : Around) (new : Bus) (now n : ℕ) (b : machine.Bus) : Type 0 where
  pub least : first (open_requests (is_due now) b) ≡ Some n
  pub stands : Stands around new (gave_up n outcome.Timeout b)

-- no deadline of an open request came
pub record ExpiresNone (around : Around) (new : Bus) (now : ℕ) (b : machine.Bus) : Type 0 where
  pub none : open_requests (is_due now) b ≡ []
  pub stands : Stands around new b

-- By cases on the answer.
abbrev pub ExpiresAs : Around → Bus → ℕ → machine.Bus → Option ℕ → Type 0
ExpiresAs around new now b (Some n) = Expires around new now n b
ExpiresAs around new now b None = ExpiresNone around new now b
