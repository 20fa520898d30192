-- What a line does to a session.
use Rattle.std.specs.Prelude.{◌≡◌, ℕ, ◌+◌, true, false, Result, Ok, Err, ⊤, List, [], ◌∷◌, ◌++◌}
use Rattle.gb_base.specs.declared.errors.OutOfMemory.{OutOfMemory}
use Rattle.gb_base.specs.declared.status.Status.{Status}
use Rattle.gb_base.specs.declared.status.Status.TheVariants as status
use Rattle.gb_capture.specs.Auditors as auditors
use Rattle.gb_capture.specs.declared.auditor.Turn.{Turn}
use Rattle.gb_capture.specs.declared.auditor.Turn.TheVariants as turn
use Rattle.gb_machine.specs.Report.{has_bad_line, report_from}
use Rattle.gb_machine.specs.State.{State, first_state}
use Rattle.gb_session.specs.Reporting as reporter
use Rattle.gb_session.specs.Reporting.{number_of, reported_last, shows_bytes}
use Rattle.gb_session.specs.declared.reporter.Ran.{Ran}
use Rattle.gb_session.specs.declared.reporter.Ran.TheVariants as ran
use Rattle.gb_session.specs.declared.reporter.Reporter.{Reporter}
use Rattle.gbus.specs.Program.{Audit, LineJob, Report, has_bad, is_bad, lines_text}
use Rattle.gbus.specs.declared.session.Session.{Session}
use Rattle.gbus.specs.declared.session.Session.TheVariants as session

-- what became of a line of a script
abbrev pub turn_of : Ran → Turn
turn_of ran.Done = turn.Next
turn_of ran.Bad = turn.Refused

-- what is done of each line
abbrev pub doing : Session → LineJob
doing (session.Report r) = Report (shows_bytes r)
doing (session.Audit a) = Audit

-- how many lines were taken
abbrev pub lines_taken : Session → ℕ
lines_taken (session.Report r) = number_of r
lines_taken (session.Audit a) = auditors.number_of a

-- what is to be written of the last line, or behind all lines
abbrev pub written : Session → List ℕ
written (session.Report r) = reported_last r
written (session.Audit a) = auditors.written a

-- These lines were taken and are good, and the reporter is in the state behind them.
pub record HasRun (x : Reporter) (given : List (List ℕ)) : Type 0 where
  pub state : State
  pub stands : reporter.Stands x state
  pub goes : (ls : List (List ℕ)) → report_from (shows_bytes x) 1 first_state (given ++ ls)
      ≡ report_from (shows_bytes x) 1 first_state given
      ++ report_from (shows_bytes x) (number_of x + 1) state ls
  pub good : has_bad_line given ≡ false

-- what is done of each line was done of these, and all are good
abbrev pub HasDone : Session → List (List ℕ) → Type 0
HasDone (session.Report r) given = HasRun r given
HasDone (session.Audit a) given = auditors.HasTaken a given

-- a text goes on so
abbrev pub Begins : List ℕ → List ℕ → Type 0
Begins front whole = (rest : List ℕ) × (whole ≡ front ++ rest)

-- These lines were taken and are good. What is written of them is a front of what is written of
-- them and of others.
pub record IsBehind (x : Session) (j : LineJob) (given : List (List ℕ)) : Type 0 where
  pub same : doing x ≡ j
  pub done : HasDone x given
  pub goes : (ls : List (List ℕ)) → Begins (lines_text j given) (lines_text j (given ++ ls))
  pub good : has_bad j given ≡ false

-- A line is good: what is written of it stands behind what is written of the lines before.
pub record TakesLine (new : Session) (j : LineJob) (given : List (List ℕ)) (line : List ℕ)
    : Type 0 where
  pub behind : IsBehind new j (given ++ line ∷ [])
  pub text : lines_text j (given ++ line ∷ []) ≡ lines_text j given ++ written new

-- A line is bad: this is written, and nothing of the lines behind it.
pub record RefusesLine (new : Session) (j : LineJob) (given : List (List ℕ)) (line : List ℕ)
    : Type 0 where
  pub bad : is_bad j line ≡ true
  pub text : (ls : List (List ℕ))
      → lines_text j (given ++ line ∷ ls) ≡ lines_text j given ++ written new

-- By cases on the answer. After want of memory nothing is said.
abbrev pub TurnsAs : Session → LineJob → List (List ℕ) → List ℕ → Result Turn OutOfMemory → Type 0
TurnsAs new j given line (Ok turn.Next) = TakesLine new j given line
TurnsAs new j given line (Ok turn.Refused) = RefusesLine new j given line
TurnsAs new j given line (Err refused) = ⊤

-- what is written behind all that was gathered, where the input ends so
abbrev pub ending_of : Status → Session → List ℕ
ending_of status.Success x = written x
ending_of status.Refused x = []
ending_of status.TooLong x = []
ending_of status.Usage x = []
ending_of status.ReadFault x = []
ending_of status.WriteFault x = []
ending_of status.NoMemory x = []
