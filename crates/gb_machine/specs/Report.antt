-- The report of a script.
use Rattle.std.specs.Prelude.{ℕ, ◌+◌, Bool, false, ◌||◌, is_err, Some, None, Ok, Err, List, [], ◌∷◌}
use Rattle.std.specs.Prelude.{◌++◌}
use Rattle.gb_formats.specs.Grammar.{Said}
use Rattle.gb_formats.specs.Lines.{lines}
use Rattle.gb_formats.specs.Script.{judged}
use Rattle.gb_formats.specs.Texts.{entries_text, refusal_line_text}
use Rattle.gb_machine.specs.Actions.{Told}
use Rattle.gb_machine.specs.Events.{step}
use Rattle.gb_machine.specs.State.{State, first_state}

-- the entries of an event, and what is reported from the state after it on
abbrev pub event_reported : ℕ → Bool → Told → (State → List ℕ) → List ℕ
event_reported n hex told later = entries_text n hex told.entries ++ later told.state

-- What is reported of line n, which says this, and of the lines behind it.
abbrev pub reported : Said → ℕ → Bool → State → (State → List ℕ) → List ℕ
reported (Err why) n hex s later = refusal_line_text n why
reported (Ok None) n hex s later = later s
reported (Ok (Some e)) n hex s later = event_reported n hex (step s e) later

-- What is reported of lines, of which the first is line n, from a state on: the entries of each
-- line in order, up to the first bad line, which is named.
unfoldable pub report_from : Bool → ℕ → State → List (List ℕ) → List ℕ
report_from hex n s [] = []
report_from hex n s (line ∷ ls) =
    reported (judged 0 line) n hex s (λ later. report_from hex (n + 1) later ls)

-- The report of a script.
abbrev pub report : Bool → List ℕ → List ℕ
report hex text = report_from hex 1 first_state (lines text)

-- whether some line is bad
unfoldable pub has_bad_line : List (List ℕ) → Bool
has_bad_line [] = false
has_bad_line (line ∷ ls) = is_err (judged 0 line) || has_bad_line ls
