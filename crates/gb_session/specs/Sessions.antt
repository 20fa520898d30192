-- What a session says of the lines that it is given.
use Rattle.std.specs.Prelude.{◌≡◌, ℕ, ◌+◌, ◌-◌, ◌==◌, Bool, true, false, is_err, is_none, Option}
use Rattle.std.specs.Prelude.{Some, None, ⊤, if◌then◌else◌, min, List, [], ◌∷◌, ◌++◌, length, take}
use Rattle.std.specs.Prelude.{drop, slice_index}
use Rattle.std.specs.List.{list_any}
use Rattle.gb_formats.specs.Lines.{is_lf, lines}
use Rattle.gb_machine.specs.Report.{report_from}
use Rattle.gb_machine.specs.State.{State}
use Rattle.gb_session.specs.Reporting as reporter
use Rattle.gb_session.specs.Reporting.{line_says, number_of, reported_last, shows_bytes}
use Rattle.gb_session.specs.Reporting.{state_behind}
use Rattle.gb_session.specs.declared.reporter.Reporter.{Reporter}
use Rattle.gb_session.specs.declared.session.Ended.{Ended}
use Rattle.gb_session.specs.declared.session.Ended.TheVariants as ended
use Rattle.gb_session.specs.declared.session.Session.{Session}

-- ---- the line that bytes are

-- without this byte, where it is the last one
abbrev pub without : ℕ → List ℕ → List ℕ
without end bytes =
    if slice_index bytes (length bytes - 1) == end then take (length bytes - 1) bytes else bytes

-- The line that these bytes are: without its end, which is LF, CR LF, CR or nothing.
abbrev pub line_in : List ℕ → List ℕ
line_in bytes = without 13 (without 10 bytes)

-- Bytes without an LF are the line that they are in a script, with an LF behind them and without.
pub record IsAsInAScript (bytes : List ℕ) : Type 0 where
  pub bare : lines (bytes ++ 10 ∷ []) ≡ line_in bytes ∷ []
  pub ended : lines (bytes ++ 10 ∷ []) ≡ line_in (bytes ++ 10 ∷ []) ∷ []

abbrev pub LinesAreAsInAScript : Type 0
LinesAreAsInAScript = (bytes : List ℕ) → list_any is_lf bytes ≡ false → IsAsInAScript bytes

-- ---- a session

-- So a session stands for a state, by what it keeps.
abbrev pub StandsBy : Option Reporter → Bool → ℕ → State → Type 0
StandsBy None hex n s = ⊥
StandsBy (Some x) hex n s =
    (shows_bytes x ≡ hex) × (number_of x ≡ n) × reporter.Stands x s

-- A session stands for a state: n lines were taken, and `hex` is whether the bytes of messages
-- are shown.
abbrev pub Stands : Session → Bool → ℕ → State → Type 0
Stands x hex n s = StandsBy x.reporter hex n s

-- no memory was found, and nothing is kept
abbrev pub has_failed : Session → Bool
has_failed x = is_none x.reporter

-- the text of the last line, by what a session keeps
abbrev pub text_by : Option Reporter → List ℕ
text_by None = []
text_by (Some x) = reported_last x

-- The report of the last line.
abbrev pub text_of : Session → List ℕ
text_of x = text_by x.reporter

-- how many lines a session takes
abbrev pub most_lines : ℕ
most_lines = 4294967295

-- ---- what a line does

-- In these, `kept` is what a session keeps behind a line, and n lines were taken before it.

-- The line was taken in this state: its text is the machine's report of this line alone.
pub record TakesLine (kept : Option Reporter) (hex : Bool) (n : ℕ) (line : List ℕ) (s : State)
    : Type 0 where
  pub stands : StandsBy kept hex (n + 1) (state_behind (line_says line) s)
  pub text : text_by kept ≡ report_from hex (n + 1) s (line ∷ [])

-- As many lines were taken as may be, and nothing was done.
pub record TakesNone (kept : Option Reporter) (hex : Bool) (n : ℕ) (s : State) : Type 0 where
  pub spent : n ≡ most_lines
  pub stands : StandsBy kept hex n s
  pub text : text_by kept ≡ []

-- By cases on how the line ended.
abbrev pub EndsAs : Option Reporter → Bool → ℕ → List ℕ → State → Ended → Type 0
EndsAs kept hex n line s ended.Done =
    (is_err (line_says line) ≡ false) × TakesLine kept hex n line s
EndsAs kept hex n line s ended.Bad = (is_err (line_says line) ≡ true) × TakesLine kept hex n line s
EndsAs kept hex n line s ended.Spent = TakesNone kept hex n s
EndsAs kept hex n line s ended.NoMemory = ⊤

-- whether memory was wanting
abbrev pub is_wanting : Ended → Bool
is_wanting ended.NoMemory = true
is_wanting ended.Done = false
is_wanting ended.Bad = false
is_wanting ended.Spent = false

-- A line was run. Nothing is kept exactly where memory was wanting, and then it always is.
pub record Runs (old new : Session) (bytes : List ℕ) (how : Ended) : Type 0 where
  pub step : (hex : Bool) (n : ℕ) (s : State) → Stands old hex n s
      → EndsAs new.reporter hex n (line_in bytes) s how
  pub failed : has_failed new ≡ is_wanting how
  pub later : has_failed old ≡ true → how ≡ ended.NoMemory

-- ---- what is copied of a text

-- From a place on so many bytes of a text were copied as there are and have room, and the rest of
-- the buffer is as before.
pub record Copies (text : List ℕ) (from : ℕ) (old new : List ℕ) (count : ℕ) : Type 0 where
  pub many : count ≡ min (length old) (length text - from)
  pub bytes : new ≡ take count (drop from text) ++ drop count old
