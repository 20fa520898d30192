-- What a system tells of the outcome of a request.
use Rattle.std.specs.Prelude.{ℕ, if◌then◌else◌, Option, Some, None}
use Rattle.gb_base.specs.declared.outcome.Outcome.{Outcome}
use Rattle.gb_bus.specs.Naming.{is_asked_for}
use Rattle.gb_machine.specs.Bus.{outcome_of}
use Rattle.gb_machine.specs.State.{State}
use Rattle.gb_system.specs.Stands.{names_of}

-- How a request ended, None in it where it is open. Of a request that is not open, has no name, and
-- was not given up or has its answer, nothing is told.
abbrev pub outcome_in : ℕ → State → Option (Option Outcome)
outcome_in n s = if is_asked_for (names_of s) n s.bus then Some (outcome_of n s.bus) else None
