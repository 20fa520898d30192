-- The report of a script is the text of the trace of its events.
use Rattle.std.proofs.Common.{◌≡◌, ℕ, ◌+◌, Bool, Some, None, Ok, Err, List, [], ◌∷◌, ◌++◌, map}
use Rattle.std.proofs.Common.{append_assoc, refl, sym, ap, ◌∙◌}
use Rattle.gb_base.specs.declared.event.Event.{Event}
use Rattle.gb_formats.proofs.JudgedValid.{judged-says_valid}
use Rattle.gb_formats.proofs.SaidValid.{SaysValid}
use Rattle.gb_formats.specs.Grammar.{Said}
use Rattle.gb_formats.specs.Lines.{lines}
use Rattle.gb_formats.specs.Script.{judged}
use Rattle.gb_formats.specs.Texts.{entries_text}
use Rattle.gb_machine.specs.Events.{step, trace_from}
use Rattle.gb_machine.specs.Report.{report_from, reported}
use Rattle.gb_machine.specs.Runs.{AreValid}
use Rattle.gb_machine.specs.ScriptRuns.{IsTraced, Line, bad_line_text, bad_text, line_onto}
use Rattle.gb_machine.specs.ScriptRuns.{lines_from, told_text}
use Rattle.gb_machine.specs.State.{State, first_state}

-- the events of lines
abbrev events : List Line → List Event
events ls = map (λ l. l.1) ls

-- ---- they are valid

onto-valid : (n : ℕ) (s : Said) (more : List Line) → SaysValid s → AreValid (events more)
    → AreValid (events (line_onto n s more))
onto-valid n (Ok None) more h k = k
onto-valid n (Ok (Some e)) more h k = (h, k)
onto-valid n (Err why) more h k = tt

lines-valid : (n : ℕ) (ls : List (List ℕ)) → AreValid (events (lines_from n ls))
lines-valid n [] = tt
lines-valid n (line ∷ ls) =
    onto-valid n (judged 0 line) (lines_from (n + 1) ls) (judged-says_valid 0 line)
    (lines-valid (n + 1) ls)

-- ---- the report is the text of their trace

-- what is reported of lines from a state on, as a trace
abbrev traced : Bool → List Line → State → List ℕ → List ℕ
traced hex ls s ending = told_text hex ls (trace_from s (events ls)) ++ ending

line-traced : (hex : Bool) (n : ℕ) (says : Said) (s : State) (more : List Line) (ending : List ℕ)
    (later : State → List ℕ) → ((t : State) → later t ≡ traced hex more t ending)
    → reported says n hex s later ≡ traced hex (line_onto n says more) s (bad_text n says ending)
line-traced hex n (Ok None) s more ending later h = h s
line-traced hex n (Ok (Some e)) s more ending later h =
    ap (λ x. entries_text n hex (step s e).entries ++ x) (h (step s e).state)
    ∙ sym (append_assoc (entries_text n hex (step s e).entries)
    (told_text hex more (trace_from (step s e).state (events more))) ending)
line-traced hex n (Err why) s more ending later h = refl

lines-traced : (hex : Bool) (n : ℕ) (ls : List (List ℕ)) (s : State)
    → report_from hex n s ls ≡ traced hex (lines_from n ls) s (bad_line_text n ls)
unfolding report_from
lines-traced hex n [] s = refl
lines-traced hex n (line ∷ ls) s =
    line-traced hex n (judged 0 line) s (lines_from (n + 1) ls) (bad_line_text (n + 1) ls)
    (λ t. report_from hex (n + 1) t ls) (λ t. lines-traced hex (n + 1) ls t)

-- Every report is that of a run of valid events.
pub reports-traced : (hex : Bool) (text : List ℕ) → IsTraced hex text
reports-traced hex text = record {
  valid = lines-valid 1 (lines text);
  report_is = lines-traced hex 1 (lines text) first_state;
}
