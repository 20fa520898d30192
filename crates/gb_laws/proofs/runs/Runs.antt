-- From one moment to all runs of moments.
use Rattle.std.proofs.Common.{List, append-nil, append_assoc, subst, sym, [], ◌++◌, ◌∷◌}
use Rattle.gb_base.specs.declared.entry.Entry.{Entry}
use Rattle.gb_base.specs.declared.event.Event.{Event}
use Rattle.gb_machine.specs.Events.{last_state, step, trace_from}
use Rattle.gb_machine.specs.Runs.{AreMoments, IsMoment, Moment, after, state_by, told_at, told_by}
use Rattle.gb_machine.specs.Runs.{told_in}
use Rattle.gb_machine.specs.State.{State, first_state}

-- A fact of what was told and of the state holds after every run of moments.
abbrev pub HoldsByMoments : (List Entry → State → Type 0) → Type 0
HoldsByMoments Fact = (es : List Event) → AreMoments es → Fact (told_by es) (state_by es)

-- the moment of an event after a run
abbrev pub moment : List Event → Event → Moment
moment es e = record { told = told_by es; before = state_by es; event = e }

-- A law of moments holds at every moment of every run of moments.
abbrev pub HoldsAtMoments : (Moment → Type 0) → Type 0
HoldsAtMoments Law =
    (es : List Event) (e : Event) → AreMoments es → IsMoment e → Law (moment es e)

-- what is told and the state, as a fact that a moment keeps
abbrev pub Keeps : (List Entry → State → Type 0) → Type 0
Keeps Fact =
    (m : Moment) → IsMoment m.event → Fact m.told m.before → Fact (m.told ++ told_at m) (after m)

from : (Fact : List Entry → State → Type 0) → Keeps Fact
    → (es : List Event) (told : List Entry) (s : State) → AreMoments es → Fact told s
    → Fact (told ++ told_in (trace_from s es)) (last_state s (trace_from s es))
from Fact keeps [] told s are h = subst (λ es. Fact es s) (sym (append-nil told)) h
from Fact keeps (e ∷ es) told s are h =
    let t = step s e in
    subst (λ all. Fact all (last_state t.state (trace_from t.state es)))
    (append_assoc told t.entries (told_in (trace_from t.state es)))
    (from Fact keeps es (told ++ t.entries) t.state are.1
    (keeps (record { told = told; before = s; event = e }) are.0 h))

-- A fact that holds first and that each moment keeps holds throughout.
pub throughout : (Fact : List Entry → State → Type 0) → Fact [] first_state → Keeps Fact
    → HoldsByMoments Fact
throughout Fact start keeps es are = from Fact keeps es [] first_state are start

-- What follows at a moment from a fact that holds throughout holds at each moment.
pub at_each : (Fact : List Entry → State → Type 0) (Says : Moment → Type 0) → HoldsByMoments Fact
    → ((m : Moment) → IsMoment m.event → Fact m.told m.before → Says m) → HoldsAtMoments Says
at_each Fact Says holds says es e are one = says (moment es e) one (holds es are)

-- a fact follows from another
pub weaker : (Fact Other : List Entry → State → Type 0)
    → ((told : List Entry) (s : State) → Fact told s → Other told s)
    → HoldsByMoments Fact → HoldsByMoments Other
weaker Fact Other f holds es are = f (told_by es) (state_by es) (holds es are)
