-- When a request times out.
use Rattle.std.specs.Prelude.{◌≡◌, ℕ, true}
use Rattle.gb_base.specs.declared.outcome.Outcome.{Outcome}
use Rattle.gb_base.specs.declared.outcome.Outcome.TheVariants as outcome
use Rattle.gb_machine.specs.Bus.{is_open}
use Rattle.gb_machine.specs.Requests.{gave_up}
use Rattle.gb_machine.specs.State.{State}
use Rattle.gb_laws.specs.Possible.{MayFollow}

-- the state once a request is given up
abbrev pub given_up : ℕ → Outcome → State → State
given_up n how s = record s { bus = gave_up n how s.bus }

-- A request is open, and what the application processor does where it times out is possible.
pub record MayTimeOut (n : ℕ) (s : State) : Type 0 where
  pub unended : is_open n s.bus ≡ true
  pub follow : MayFollow n outcome.Timeout (given_up n outcome.Timeout s)
