-- What a line does to a reporter.
use Rattle.std.specs.Prelude.{◌≡◌, ℕ, ◌+◌, Bool, true, false, is_err, if◌then◌else◌, Some}
use Rattle.std.specs.Prelude.{None, Result, Ok, Err, ⊤, List, [], ◌∷◌, ◌++◌}
use Rattle.std.specs.String.{string_bytes}
use Rattle.gb_base.specs.declared.errors.OutOfMemory.{OutOfMemory}
use Rattle.gb_formats.specs.Grammar.{Said}
use Rattle.gb_formats.specs.Script.{judged}
use Rattle.gb_machine.specs.Events.{step}
use Rattle.gb_machine.specs.Report.{report_from}
use Rattle.gb_machine.specs.State.{State}
use Rattle.gb_system.specs.Stands as system
use Rattle.gb_session.specs.declared.reporter.Ran.{Ran}
use Rattle.gb_session.specs.declared.reporter.Ran.TheVariants as ran
use Rattle.gb_session.specs.declared.reporter.Reporter.{Reporter}

-- what a line says
abbrev pub line_says : List ℕ → Said
line_says line = judged 0 line

-- the state behind a line that says this, where it was taken in a state
abbrev pub state_behind : Said → State → State
state_behind (Ok (Some e)) s = (step s e).state
state_behind (Ok None) s = s
state_behind (Err why) s = s

-- whether the bytes of messages are shown
abbrev pub shows_bytes : Reporter → Bool
shows_bytes x = x.hex

-- how many lines were taken
abbrev pub number_of : Reporter → ℕ
number_of x = x.number

-- the report of the last line
abbrev pub reported_last : Reporter → List ℕ
reported_last x = string_bytes x.text

-- A reporter stands for the states for which its system does.
abbrev pub Stands : Reporter → State → Type 0
Stands x s = system.Stands x.system s

-- A line was taken in this state: its text is the machine's report of this line alone.
pub record TakesLine (new : Reporter) (line : List ℕ) (s : State) : Type 0 where
  pub stands : Stands new (state_behind (line_says line) s)
  pub text : reported_last new ≡ report_from (shows_bytes new) (number_of new) s (line ∷ [])

-- By cases on the answer. After want of memory nothing is said.
abbrev pub RunsAs : Reporter → List ℕ → State → Result Ran OutOfMemory → Type 0
RunsAs new line s (Ok ran.Done) = (is_err (line_says line) ≡ false) × TakesLine new line s
RunsAs new line s (Ok ran.Bad) = (is_err (line_says line) ≡ true) × TakesLine new line s
RunsAs new line s (Err refused) = ⊤

-- The report of lines is that of the first one alone and, where it is good, that of the others from
-- the state behind it on.
abbrev pub ReportsByLine : Type 0
ReportsByLine = (hex : Bool) (n : ℕ) (s : State) (line : List ℕ) (ls : List (List ℕ))
    → report_from hex n s (line ∷ ls) ≡ report_from hex n s (line ∷ [])
    ++ (if is_err (line_says line) then []
    else report_from hex (n + 1) (state_behind (line_says line) s) ls)
