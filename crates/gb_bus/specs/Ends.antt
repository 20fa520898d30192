-- What is decided of ends and requests without a bus.
use Rattle.std.specs.Prelude.{ℕ, Bool, true, false, Option, Some, None, if◌then◌else◌}
use Rattle.gb_base.specs.declared.end.End.{End}
use Rattle.gb_base.specs.declared.end.End.TheVariants as end
use Rattle.gb_base.specs.declared.outcome.Outcome.{Outcome}
use Rattle.gb_base.specs.declared.outcome.Outcome.TheVariants as outcome
use Rattle.gb_machine.specs.Waiting.{end_before}

-- a unidirectional request ends as Sent at once
abbrev pub first_outcome : Bool → Option Outcome
first_outcome oneway = if oneway then Some outcome.Sent else None

-- the greatest number that a request or a connection can have
abbrev pub greatest_number : ℕ
greatest_number = 18446744073709551615

-- A far end is the supervisory controller or a module's CPort.
abbrev pub is_far : End → Bool
is_far (end.Ap a) = false
is_far end.Svc = true
is_far (end.Module i c) = true

-- the earlier of two ends
abbrev pub earlier_of : End → Option End → Option End
earlier_of at None = Some at
earlier_of at (Some later) = if end_before at later then Some at else Some later

-- the earlier of an end, unless nothing waits there, and one that was found before
abbrev pub earlier : Bool → End → Option End → Option End
earlier empty at found = if empty then found else earlier_of at found
