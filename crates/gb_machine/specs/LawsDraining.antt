-- What becomes of the application processor's requests on a connection that closes.
use Rattle.std.specs.Prelude.{◌≡◌, ℕ, true, false, Option, Some, None, List, [], ◌∷◌, ◌++◌}
use Rattle.gb_base.specs.declared.end.Side.TheVariants as side
use Rattle.gb_base.specs.declared.entry.ConnState.TheVariants as state
use Rattle.gb_base.specs.declared.entry.Entry.TheVariants as entry
use Rattle.gb_base.specs.declared.event.Event.{Event}
use Rattle.gb_base.specs.declared.outcome.Outcome.{Outcome}
use Rattle.gb_base.specs.declared.outcome.Outcome.TheVariants as outcome
use Rattle.gb_machine.specs.Bus.{Request, is_open, outcome_of, request_of}
use Rattle.gb_machine.specs.LawsEnds.{IsDisconnection}
use Rattle.gb_machine.specs.Members.{Each, IsIn}
use Rattle.gb_machine.specs.Refusals.{refusal}
use Rattle.gb_machine.specs.Runs.{AreValid, Moment, after, moments_in, told_at}
use Rattle.gb_machine.specs.State.{State}

-- At a moment it is told that connection k is closing.
abbrev pub TellsClosing : ℕ → Moment → Type 0
TellsClosing k m =
    (own : ℕ) × (i : ℕ) × (c : ℕ) × IsIn (entry.Connection k own i c state.Closing) (told_at m)

-- Where it is told at a moment that a connection is closing, no request that the application
-- processor made on it is open after the moment.
abbrev pub ClosingLeavesNoneOpen : Moment → Type 0
ClosingLeavesNoneOpen m =
    (k n : ℕ) (r : Request) → TellsClosing k m → request_of n (after m).bus ≡ Some r
    → r.connection ≡ k → r.side ≡ side.Ap → is_open n (after m).bus ≡ false

-- Connection k isn't cut at a moment: no disconnect of it is done, and no removal of its interface
-- is handled.
abbrev pub IsUncut : ℕ → Moment → Type 0
IsUncut k m = refusal m.before m.event ≡ None → IsDisconnection m side.Ap k → ⊥

-- Moments in a row, and a last one behind them: connection k is cut at none of them, and at the
-- last one it is told that it is closing.
pub record ClosesUncut (k : ℕ) (row : List Moment) (last : Moment) : Type 0 where
  pub uncut : Each (IsUncut k) row
  pub uncut_last : IsUncut k last
  pub closing : TellsClosing k last

-- The state before a row of moments and a last one behind it.
abbrev pub begun : List Moment → Moment → State
begun [] last = last.before
begun (m ∷ ms) last = m.before

-- A request ended by an answer, by a cancel or by its deadline.
abbrev pub CameToAnEnd : Option Outcome → Type 0
CameToAnEnd (Some (outcome.Answered result payload)) = Unit {0}
CameToAnEnd (Some outcome.Cancelled) = Unit {0}
CameToAnEnd (Some outcome.Timeout) = Unit {0}
CameToAnEnd _ = ⊥

-- Where a connection closes uncut in a row of moments of a run, each request of the application
-- processor that was open on it before the row was answered, was cancelled or timed out by the last
-- moment. A close that drains is such a row, which begins with the drain.
abbrev pub UncutComeToAnEnd : List Event → Type 0
UncutComeToAnEnd es =
    (front row back : List Moment) (last : Moment)
    → moments_in es ≡ front ++ (row ++ last ∷ back) → (k : ℕ) → ClosesUncut k row last
    → (n : ℕ) (r : Request) → request_of n (begun row last).bus ≡ Some r
    → is_open n (begun row last).bus ≡ true → r.connection ≡ k → r.side ≡ side.Ap
    → CameToAnEnd (outcome_of n (after last).bus)

-- So it is in every run.
abbrev pub DrainedComeToAnEnd : Type 0
DrainedComeToAnEnd = (es : List Event) → AreValid es → UncutComeToAnEnd es
