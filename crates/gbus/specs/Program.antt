-- What the program writes and how it ends, by its words and its input.
use Rattle.std.specs.Prelude.{◌≡◌, ℕ, nat_lt, Bool, true, false, ◌&&◌, if◌then◌else◌, Option, Some}
use Rattle.std.specs.Prelude.{None, is_err, is_some, option_map, List, [], ◌∷◌, ◌++◌, length, take}
use Rattle.std.specs.Prelude.{codes}
use Rattle.std.specs.Str.{bytes_eq}
use Rattle.gb_base.specs.declared.event.Event.{Event}
use Rattle.gb_base.specs.declared.reasons.LineReason.{LineReason}
use Rattle.gb_base.specs.declared.parts.Asked.{Asked}
use Rattle.gb_base.specs.declared.parts.Parts.{Parts}
use Rattle.gb_base.specs.declared.status.Status.{Status}
use Rattle.gb_base.specs.declared.status.Status.TheVariants as status
use Rattle.gb_formats.specs.AuditTexts.{audited, closing_text, unless_bad}
use Rattle.gb_formats.specs.Captures.{captured, first_bad}
use Rattle.gb_formats.specs.Dump.{manifest_text, manifest_verdict}
use Rattle.gb_formats.specs.Lines.{ended_lines, lines, longest_input}
use Rattle.gb_formats.specs.Manifest.{check_answer}
use Rattle.gb_formats.specs.Orders.{Place, merge}
use Rattle.gb_formats.specs.Parts.{parts}
use Rattle.gb_formats.specs.Script.{judged}
use Rattle.gb_formats.specs.Source.{compile_answer}
use Rattle.gb_formats.specs.SourceTexts.{compile_text, compile_verdict, decompile_text}
use Rattle.gb_formats.specs.SourceTexts.{decompile_verdict}
use Rattle.gb_formats.specs.Texts.{refusal_line_text}
use Rattle.gb_formats.specs.WordValues.{number_word}
use Rattle.gb_machine.specs.Report.{has_bad_line, report, report_from}
use Rattle.gb_machine.specs.Shared.{IsTold, done_in}
use Rattle.gb_machine.specs.State.{first_state}
use Rattle.gb_machine.specs.Summary.{summary}

-- ---- what is written of an input that is read line by line

-- What is done line by line: the report of a script, with message bytes where hex is wanted; or the
-- audit of a capture.
pub data LineJob : Type 0 where
  Report : Bool → LineJob
  Audit : LineJob

-- what is written of lines, up to the first bad one, which is named
abbrev pub lines_text : LineJob → List (List ℕ) → List ℕ
lines_text (Report hex) ls = report_from hex 1 first_state ls
lines_text Audit ls = audited ls

-- whether a line is bad
abbrev pub is_bad : LineJob → List ℕ → Bool
is_bad (Report hex) line = is_err (judged 0 line)
is_bad Audit line = is_err (captured line)

-- whether one of these lines is bad
abbrev pub has_bad : LineJob → List (List ℕ) → Bool
has_bad (Report hex) ls = has_bad_line ls
has_bad Audit ls = is_some (first_bad ls)

-- what is written behind all lines, where none is bad and no more bytes came than may
abbrev pub last_text : LineJob → List (List ℕ) → List ℕ
last_text (Report hex) ls = []
last_text Audit ls = closing_text ls

-- What is written of a capture: of its lines, and then the last line, where no line is bad and no
-- more bytes came than may.
abbrev pub audit_output : List (List ℕ) → Bool → List ℕ
audit_output ls too_long =
    audited ls ++ (if too_long then [] else unless_bad (first_bad ls) (closing_text ls))

-- ---- what is written of an input that is read as a whole, and how the program ends then

-- What is done of an input as a whole: the check of a manifest, with its dump where that is wanted;
-- the manifest of a text; or the text of a manifest.
pub data WholeJob : Type 0 where
  Check : Bool → WholeJob
  Compile : WholeJob
  Decompile : WholeJob

-- what is written of an input
abbrev pub whole_text : WholeJob → List ℕ → List ℕ
whole_text (Check dump) bytes = manifest_text dump (check_answer bytes)
whole_text Compile text = compile_text (compile_answer text)
whole_text Decompile bytes = decompile_text (check_answer bytes)

-- how the program ends then
abbrev pub whole_verdict : WholeJob → List ℕ → Status
whole_verdict (Check dump) bytes = manifest_verdict (check_answer bytes)
whole_verdict Compile text = compile_verdict (compile_answer text)
whole_verdict Decompile bytes = decompile_verdict (check_answer bytes)

-- ---- what is written of a script whose lines are run by their requesters

-- By cases on the first bad line and on whether the input is too long. Of a bad line it is told
-- alone, and nothing is run. Of an input that is too long nothing is told. Else the lines were run
-- in an order that is told.
abbrev pub SharesBy : Option (ℕ × LineReason) → (too_long hex : Bool) → List Asked
    → (written : List ℕ) → Type 0
SharesBy (Some (n, why)) too_long hex asked written = written ≡ refusal_line_text n why
SharesBy None true hex asked written = written ≡ []
SharesBy None false hex asked written = IsTold hex asked written

-- What is written of the parts of a script, of which these are all lines or, where the input is too
-- long, those that end within the limit.
abbrev pub Shares : Bool → Parts → (too_long : Bool) → (written : List ℕ) → Type 0
Shares hex p too_long written = SharesBy p.bad too_long hex p.asked written

-- the events that are run where the lines come in this order
abbrev pub events_in : Parts → List Place → List Event
events_in p order = done_in (merge p.asked order)

-- ---- what the program writes and how it ends, by its words and its input

-- What the words ask for: something of each line of the input; or something of it as a whole; or
-- that its lines are run by their requesters, with message bytes where hex is wanted; or the
-- summary of the script that is made from a number.
pub data Job : Type 0 where
  ByLine : LineJob → Job
  Whole : WholeJob → Job
  Share : Bool → Job
  Drive : ℕ → Job

-- the words `run`, `share`, `audit`, `check`, `dump`, `compile` and `decompile`
abbrev pub one_word : List ℕ → Option Job
one_word w =
    if bytes_eq w (codes "run") then Some (ByLine (Report false))
    else if bytes_eq w (codes "share") then Some (Share false)
    else if bytes_eq w (codes "audit") then Some (ByLine Audit)
    else if bytes_eq w (codes "check") then Some (Whole (Check false))
    else if bytes_eq w (codes "dump") then Some (Whole (Check true))
    else if bytes_eq w (codes "compile") then Some (Whole Compile)
    else if bytes_eq w (codes "decompile") then Some (Whole Decompile)
    else None

-- the greatest number from which a script is made
abbrev pub greatest_seed : ℕ
greatest_seed = 2147483647

-- the words `run --hex` and `share --hex`, and `drive N` with N in decimal, with no zero in front
-- but `0` itself
abbrev pub two_words : List ℕ → List ℕ → Option Job
two_words w x =
    if bytes_eq w (codes "run") && bytes_eq x (codes "--hex") then Some (ByLine (Report true))
    else if bytes_eq w (codes "share") && bytes_eq x (codes "--hex") then Some (Share true)
    else if bytes_eq w (codes "drive") then option_map Drive (number_word 0 greatest_seed x)
    else None

-- What the words ask for, None where they are none of the program's.
abbrev pub job_of : List (List ℕ) → Option Job
job_of [] = None
job_of (w ∷ []) = one_word w
job_of (w ∷ x ∷ []) = two_words w x
job_of (w ∷ x ∷ y ∷ ws) = None

abbrev pub is_too_long : List ℕ → Bool
is_too_long text = nat_lt longest_input (length text)

-- What is taken of lines: all of them, or of a text that is too long those that end
-- within the limit.
abbrev pub lines_within : List ℕ → List ℕ
lines_within text =
    if is_too_long text then ended_lines (take longest_input text) else text

-- Whether the words ask for something of the input. Otherwise nothing is read.
abbrev pub reads : Option Job → Bool
reads (Some (ByLine j)) = true
reads (Some (Whole j)) = true
reads (Some (Share hex)) = true
reads (Some (Drive seed)) = false
reads None = false

-- whether something is done of each line
abbrev pub is_by_line : Option Job → Bool
is_by_line (Some (ByLine j)) = true
is_by_line (Some (Whole j)) = false
is_by_line (Some (Share hex)) = false
is_by_line (Some (Drive seed)) = false
is_by_line None = false

-- What is written where something is done of each line: the report of a script, as far as it is
-- run; or what is found of a capture.
abbrev pub lines_output : LineJob → List ℕ → List ℕ
lines_output (Report hex) text = report hex (lines_within text)
lines_output Audit text = audit_output (lines (lines_within text)) (is_too_long text)

-- What is written of an input as a whole: nothing where it is too long.
abbrev pub whole_output : WholeJob → List ℕ → List ℕ
whole_output j text = if is_too_long text then [] else whole_text j text

-- What is written for an input. Where lines are run by their requesters it depends on the order in
-- which they came; else it is determined. The summary of a made script is the same whatever the
-- input is.
abbrev pub Writes : Job → (text written : List ℕ) → Type 0
Writes (ByLine j) text written = written ≡ lines_output j text
Writes (Whole j) text written = written ≡ whole_output j text
Writes (Share hex) text written =
    Shares hex (parts (lines_within text)) (is_too_long text) written
Writes (Drive seed) text written = written ≡ summary seed

-- How it ends where something is done of lines: a bad line comes before an input that is too long.
abbrev pub lines_status : Bool → Bool → Status
lines_status bad too_long =
    if bad then status.Refused else if too_long then status.TooLong else status.Success

-- How the program ends where nothing fails and memory is found.
abbrev pub verdict : Job → List ℕ → Status
verdict (ByLine j) text = lines_status (has_bad j (lines (lines_within text))) (is_too_long text)
verdict (Whole j) text = if is_too_long text then status.TooLong else whole_verdict j text
verdict (Share hex) text =
    lines_status (is_some (parts (lines_within text)).bad) (is_too_long text)
verdict (Drive seed) text = status.Success

-- a status that speaks of the input
abbrev pub IsVerdict : Status → Type 0
IsVerdict status.Success = Unit {0}
IsVerdict status.Refused = Unit {0}
IsVerdict status.TooLong = Unit {0}
IsVerdict status.Usage = ⊥
IsVerdict status.ReadFault = ⊥
IsVerdict status.WriteFault = ⊥
IsVerdict status.NoMemory = ⊥
