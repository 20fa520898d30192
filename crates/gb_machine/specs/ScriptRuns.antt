-- The run that a script is: the events of its lines, and their trace, whose text is the report.
use Rattle.std.specs.Prelude.{◌≡◌, ℕ, ◌+◌, Bool, Some, None, Ok, Err, List, [], ◌∷◌, ◌++◌, map}
use Rattle.gb_base.specs.declared.event.Event.{Event}
use Rattle.gb_formats.specs.Grammar.{Said}
use Rattle.gb_formats.specs.Lines.{lines}
use Rattle.gb_formats.specs.Script.{judged}
use Rattle.gb_formats.specs.Texts.{entries_text, refusal_line_text}
use Rattle.gb_machine.specs.Actions.{Told}
use Rattle.gb_machine.specs.Events.{trace}
use Rattle.gb_machine.specs.Report.{report}
use Rattle.gb_machine.specs.Runs.{AreValid}

-- ---- the events of a script

-- an event with the number of its line
abbrev pub Line : Type 0
Line = ℕ × Event

-- what line n says, in front of the events of the lines after it: there are none after a bad line
abbrev pub line_onto : ℕ → Said → List Line → List Line
line_onto n (Ok None) more = more
line_onto n (Ok (Some e)) more = (n, e) ∷ more
line_onto n (Err why) more = []

-- the events of lines, of which the first is line n, up to the first bad line
abbrev pub lines_from : ℕ → List (List ℕ) → List Line
lines_from n [] = []
lines_from n (line ∷ ls) = line_onto n (judged 0 line) (lines_from (n + 1) ls)

-- The events of a script, each with the number of its line, up to the first bad line.
abbrev pub script_lines : List ℕ → List Line
script_lines text = lines_from 1 (lines text)

-- The events of a script.
abbrev pub script_events : List ℕ → List Event
script_events text = map (λ l. l.1) (script_lines text)

-- ---- the text of their trace

-- what is told at each of these lines
abbrev pub told_text : Bool → List Line → List Told → List ℕ
told_text hex [] told = []
told_text hex (l ∷ ls) [] = []
told_text hex (l ∷ ls) (t ∷ ts) = entries_text l.0 hex t.entries ++ told_text hex ls ts

-- what is told of line n, where it is bad
abbrev pub bad_text : ℕ → Said → List ℕ → List ℕ
bad_text n (Ok says) later = later
bad_text n (Err why) later = refusal_line_text n why

-- what is told of the first bad line
abbrev pub bad_line_text : ℕ → List (List ℕ) → List ℕ
bad_line_text n [] = []
bad_line_text n (line ∷ ls) = bad_text n (judged 0 line) (bad_line_text (n + 1) ls)

-- The text of the trace of a script's events, and then of its first bad line.
abbrev pub trace_text : Bool → List ℕ → List ℕ
trace_text hex text =
    told_text hex (script_lines text) (trace (script_events text)) ++ bad_line_text 1 (lines text)

-- ---- the law

-- The report of a script is the text of the trace of its events, which the machine may be given.
pub record IsTraced (hex : Bool) (text : List ℕ) : Type 0 where
  pub valid : AreValid (script_events text)
  pub report_is : report hex text ≡ trace_text hex text
