-- The actions of wiring, unwiring and closing a connection.
use Rattle.std.specs.Prelude.{ℕ, ◌==◌, [], ◌∷◌, ◌++◌, map}
use Rattle.gb_base.specs.declared.bridge.Reading.TheVariants as reading
use Rattle.gb_base.specs.declared.end.Side.TheVariants as side
use Rattle.gb_base.specs.declared.entry.Entry.{Entry}
use Rattle.gb_base.specs.declared.entry.Entry.TheVariants as entry
use Rattle.gb_base.specs.declared.outcome.Outcome.TheVariants as outcome
use Rattle.gb_machine.specs.Actions.{Action, by_state, change, on_bus, tell_all, ◌▸◌}
use Rattle.gb_machine.specs.Lists.{without}
use Rattle.gb_machine.specs.Requests.{open_on}
use Rattle.gb_machine.specs.State.{State}
use Rattle.gb_machine.specs.Wiring.{shut_down, unwired, wired}

-- what is told of a request whose connection is closed or unwired
abbrev pub disconnected_told : ℕ → Entry
disconnected_told n = entry.Ended n outcome.Disconnected reading.Nothing

-- a connection is wired, and is remembered to have been
abbrev pub with_wired : ℕ → State → State
with_wired k s = record s {
  bus = wired k s.bus;
  past = record s.past { wired = s.past.wired ++ k ∷ [] };
}

-- A connection is wired.
unfoldable pub wires : ℕ → Action
wires k = change (with_wired k)

-- a connection isn't wired: what it held is lost, and its hold mark is taken back
abbrev pub with_unwired : ℕ → State → State
with_unwired k s = record s {
  bus = unwired k s.bus;
  holds = without (λ j. j == k) s.holds;
  held = without (λ h. h.connection == k) s.held;
}

-- A connection is unwired: the far side's open requests end, in order of number.
unfoldable pub unwires : ℕ → Action
unwires k = by_state (λ s.
    change (with_unwired k) ▸ tell_all (map disconnected_told (open_on k side.Far s.bus)))

-- The application processor's side of a connection is closed: its open requests end, in
-- order of number.
unfoldable pub shuts : ℕ → Action
shuts k = by_state (λ s.
    on_bus (shut_down k) ▸ tell_all (map disconnected_told (open_on k side.Ap s.bus)))
