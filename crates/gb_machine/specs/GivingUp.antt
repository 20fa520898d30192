-- The actions by which requests are given up: a request is cancelled, or time passes.
use Rattle.std.specs.Prelude.{ℕ, ◌+◌}
use Rattle.gb_base.specs.declared.bridge.Reading.TheVariants as reading
use Rattle.gb_base.specs.declared.entry.Entry.TheVariants as entry
use Rattle.gb_base.specs.declared.name.Name.{Name}
use Rattle.gb_base.specs.declared.outcome.Outcome.{Outcome}
use Rattle.gb_base.specs.declared.outcome.Outcome.TheVariants as outcome
use Rattle.gb_machine.specs.Actions.{Action, by_state, change, each, given, on_bus, tell, ◌▸◌}
use Rattle.gb_machine.specs.HostActs.{follows}
use Rattle.gb_machine.specs.Names.{named}
use Rattle.gb_machine.specs.Requests.{gave_up, is_due, open_requests}
use Rattle.gb_machine.specs.State.{State}

-- A request is given up, and what waited for it fails.
unfoldable pub gives_up : Outcome → ℕ → Action
gives_up how n =
    on_bus (gave_up n how) ▸ tell (entry.Ended n how reading.Nothing) ▸ follows n how

-- The request of a name is cancelled.
unfoldable pub cancels : Name → Action
cancels name = by_state (λ s. given (named name s.names) (gives_up outcome.Cancelled))

-- time passes
abbrev pub later_by : ℕ → State → State
later_by millis s = record s { now = s.now + millis }

-- The requests whose deadline came are given up, in order of number.
unfoldable pub times_out : Action
times_out = by_state (λ s.
    each (open_requests (is_due s.now) s.bus) (gives_up outcome.Timeout))

-- Time passes.
unfoldable pub ticks : ℕ → Action
ticks millis = change (later_by millis) ▸ times_out
