-- A line that is taken is reported as the machine reports it.
use Rattle.std.proofs.Common.{◌≡◌, ℕ, ◌+◌, ◌≤◌, nat_lt, length, arith, Bool, true, false, cond}
use Rattle.std.specs.Prelude.{nat_le}
use Rattle.std.proofs.Common.{Some, None, Ok, Err, List, [], ◌∷◌, ◌++◌, append-nil, refl}
use Rattle.std.proofs.Common.{sym, ap, subst, ◌∙◌}
use Rattle.std.specs.Result.{is_err}
use Rattle.std.proofs.lemmas.Bool.Decides.{nat_tests}
use Rattle.std.proofs.lemmas.List.{take_all}
use Rattle.gb_base.specs.declared.entry.Entry.{Entry}
use Rattle.gb_base.specs.declared.event.Event.{Event}
use Rattle.gb_base.specs.declared.reasons.LineReason.{LineReason}
use Rattle.gb_base.specs.declared.reasons.LineReason.TheVariants as bad
use Rattle.gb_formats.specs.Grammar.{Said, asked_for}
use Rattle.gb_formats.specs.Script.{bad_place, unless_bad}
use Rattle.gb_formats.specs.Texts.{entries_text, refusal_line_text}
use Rattle.gb_formats.specs.Words.{words}
use Rattle.gb_machine.specs.Events.{step}
use Rattle.gb_machine.specs.Report.{report_from, reported}
use Rattle.gb_machine.specs.State.{State}
use Rattle.gb_script.specs.Readers.{IsLineOf}
use Rattle.gb_system.specs.Stands as system
use Rattle.gb_session.specs.Reporting.{ReportsByLine, Stands, TakesLine, line_says, number_of}
use Rattle.gb_session.specs.Reporting.{reported_last, shows_bytes, state_behind}
use Rattle.gb_session.specs.declared.reporter.Reporter.{Reporter}

-- a line that isn't long is handed out whole
not-long : (n m : ℕ) → false ≡ nat_lt m n → n ≤ m
not-long n m h = grind (arith, nat_tests)

pub short_line : (bytes : List ℕ) (long : Bool) (whole : List ℕ) → IsLineOf bytes long whole
    → long ≡ false → bytes ≡ whole
short_line bytes long whole is h =
    is.0 ∙ take_all 8192 whole (not-long (length whole) 8192 (sym h ∙ is.1))

-- a line that is long says so
no-room : (n m : ℕ) → true ≡ nat_lt m n → nat_le n m ≡ false
no-room n m h = grind (arith, nat_tests)

pub long-line : (bytes : List ℕ) (long : Bool) (whole : List ℕ) → IsLineOf bytes long whole
    → long ≡ true → line_says whole ≡ Err bad.Long
long-line bytes long whole is h =
    ap (λ t. cond t (unless_bad (bad_place 1 whole) (asked_for 0 (words whole))) (Err bad.Long))
    (no-room (length whole) 8192 (sym h ∙ is.1))

-- ---- the report of a line

-- of one line alone, by what it says
pub report-one : (hex : Bool) (n : ℕ) (s : State) (line : List ℕ)
    → report_from hex n s (line ∷ []) ≡ reported (line_says line) n hex s (λ later. [])
unfolding report_from
report-one hex n s line = refl

report-more : (hex : Bool) (n : ℕ) (s : State) (line : List ℕ) (ls : List (List ℕ))
    → report_from hex n s (line ∷ ls)
    ≡ reported (line_says line) n hex s (λ later. report_from hex (n + 1) later ls)
unfolding report_from
report-more hex n s line ls = refl

-- by what the line says
by-saying : (says : Said) (n : ℕ) (hex : Bool) (s : State) (later : State → List ℕ)
    → reported says n hex s later ≡ reported says n hex s (λ t. [])
    ++ cond (is_err says) [] (later (state_behind says s))
by-saying (Err why) n hex s later = sym (append-nil (refusal_line_text n why))
by-saying (Ok None) n hex s later = refl
by-saying (Ok (Some e)) n hex s later =
    ap (λ t. t ++ later (step s e).state)
    (sym (append-nil (entries_text n hex (step s e).entries)))

-- The report of lines is that of the first one and that of the others.
pub by-line : ReportsByLine
by-line hex n s line ls =
    report-more hex n s line ls
    ∙ by-saying (line_says line) n hex s (λ later. report_from hex (n + 1) later ls)
    ∙ ap (λ t. t ++ cond (is_err (line_says line)) []
    (report_from hex (n + 1) (state_behind (line_says line) s) ls))
    (sym (report-one hex n s line))

-- behind a good line stands the report of the others, and behind a bad one nothing
pub behind-good : (hex : Bool) (n : ℕ) (s : State) (line : List ℕ) (ls : List (List ℕ))
    → is_err (line_says line) ≡ false
    → report_from hex n s (line ∷ ls) ≡ report_from hex n s (line ∷ [])
    ++ report_from hex (n + 1) (state_behind (line_says line) s) ls
behind-good hex n s line ls good =
    by-line hex n s line ls
    ∙ ap (λ b. report_from hex n s (line ∷ [])
    ++ cond b [] (report_from hex (n + 1) (state_behind (line_says line) s) ls)) good

pub behind-bad : (hex : Bool) (n : ℕ) (s : State) (line : List ℕ) (ls : List (List ℕ))
    → is_err (line_says line) ≡ true
    → report_from hex n s (line ∷ ls) ≡ report_from hex n s (line ∷ [])
behind-bad hex n s line ls bad =
    by-line hex n s line ls
    ∙ ap (λ b. report_from hex n s (line ∷ [])
    ++ cond b [] (report_from hex (n + 1) (state_behind (line_says line) s) ls)) bad
    ∙ append-nil (report_from hex n s (line ∷ []))

-- ---- a line is taken

-- it says this, and this is its text
takes : (new : Reporter) (line : List ℕ) (says : Said) (s : State) → line_says line ≡ says
    → Stands new (state_behind says s)
    → reported_last new ≡ reported says (number_of new) (shows_bytes new) s (λ later. [])
    → TakesLine new line s
takes new line says s is stands text = record {
  stands = subst (λ w. Stands new (state_behind w s)) (sym is) stands;
  text = text
      ∙ ap (λ w. reported w (number_of new) (shows_bytes new) s (λ later. [])) (sym is)
      ∙ sym (report-one (shows_bytes new) (number_of new) s line);
}

-- an event was stepped, and its entries were reported
pub takes-event : (new : Reporter) (line : List ℕ) (s : State) (e : Event) (es : List Entry)
    → line_says line ≡ Ok (Some e) → system.StepsAs new.system s e (Ok es)
    → reported_last new ≡ entries_text (number_of new) (shows_bytes new) es
    → (is_err (line_says line) ≡ false) × TakesLine new line s
takes-event new line s e es is steps text = (
  ap is_err is,
  takes new line (Ok (Some e)) s is steps.1
      (text ∙ ap (entries_text (number_of new) (shows_bytes new)) steps.0
      ∙ sym (append-nil (entries_text (number_of new) (shows_bytes new) (step s e).entries))),
)

-- a line without an event
pub takes-blank : (new : Reporter) (line : List ℕ) (s : State) → line_says line ≡ Ok None
    → Stands new s → reported_last new ≡ []
    → (is_err (line_says line) ≡ false) × TakesLine new line s
takes-blank new line s is stands text = (ap is_err is, takes new line (Ok None) s is stands text)

-- a bad line, which is named
pub takes-bad : (new : Reporter) (line : List ℕ) (s : State) (why : LineReason)
    → line_says line ≡ Err why → Stands new s
    → reported_last new ≡ refusal_line_text (number_of new) why
    → (is_err (line_says line) ≡ true) × TakesLine new line s
takes-bad new line s why is stands text =
    (ap is_err is, takes new line (Err why) s is stands text)
