-- A line that is taken does what the machine does.
use Rattle.std.proofs.Common.{◌++◌, Ok, Err, ap, sym, subst, ◌∙◌}
use Rattle.gb_base.specs.declared.reasons.LineReason.TheVariants as bad
use Rattle.gb_formats.proofs.JudgedValid.{judged-valid}
use Rattle.gb_formats.specs.Texts.{entries_text, refusal_line_text}
use Rattle.gb_script.specs.Tells.{Tells}
use Rattle.gb_script.specs.declared.line_fault.LineFault.{LineFault}
use Rattle.gb_session.proofs.Reporting.{long-line, short_line, takes-bad, takes-blank, takes-event}
use Rattle.gb_session.specs.Reporting.{line_says}
use Rattle.gb_session.proofs.reporter.Reporter.take.Goals as goal

pub step_into-requires-clause-valid : goal.step_into-requires-clause-valid
step_into-requires-clause-valid c =
    judged-valid 0 c.args.line.bytes.now c.in-Ok-Some.e
    (c.in-Ok-Some.ensures ∙ ap Ok c.in-Ok-Some.field-0-is)

pub returns-then-line-clause-ran : goal.returns-then-line-clause-ran
returns-then-line-clause-ran c = λ s whole st is.
    takes-bad _ whole s bad.Long
    (long-line c.args.line.bytes.now c.args.line.long whole is c.if-line.true) st
    (c.in_ok-append_refusal.ensures
    ∙ ap (λ t. t ++ refusal_line_text c.args.line.number bad.Long) c.clear.ensures.bytes)

pub returns-in-Ok-None-clause-ran : goal.returns-in-Ok-None-clause-ran
returns-in-Ok-None-clause-ran c = λ s whole st is.
    takes-blank _ whole s
    (ap line_says (sym (short_line c.args.line.bytes.now c.args.line.long whole is c.if-line.false))
    ∙ c.in-Ok-None.ensures ∙ ap Ok c.in-Ok-None.field-0-is)
    st c.clear.ensures.bytes

pub returns-in_ok-append_all-in-Ok-Some-clause-ran :
    goal.returns-in_ok-append_all-in-Ok-Some-clause-ran
returns-in_ok-append_all-in-Ok-Some-clause-ran c = λ s whole st is.
    takes-event _ whole s c.in-Ok-Some.e c.step_into.new.told
    (ap line_says (sym (short_line c.args.line.bytes.now c.args.line.long whole is c.if-line.false))
    ∙ c.in-Ok-Some.ensures ∙ ap Ok c.in-Ok-Some.field-0-is)
    (c.in_ok-step_into-in-Ok-Some.ensures.step s st)
    (c.in_ok-append_all-in-Ok-Some.ensures
    ∙ ap (λ t. t ++ entries_text c.args.line.number c.args.self.now.hex c.items.result.now)
    c.clear.ensures.bytes
    ∙ ap (entries_text c.args.line.number c.args.self.now.hex) c.items.ensures)

pub returns-in_ok-append_refusal-in-Err-Bad-clause-ran :
    goal.returns-in_ok-append_refusal-in-Err-Bad-clause-ran
returns-in_ok-append_refusal-in-Err-Bad-clause-ran c = λ s whole st is.
    takes-bad _ whole s c.in-Err-Bad.why
    (ap line_says (sym (short_line c.args.line.bytes.now c.args.line.long whole is
    c.if-line.false))
    ∙ subst (λ (f : LineFault). Tells (Err f) (line_says c.args.line.bytes.now))
    c.in-Err-Bad.field-0-is c.in-Err-Bad.ensures)
    st
    (c.in_ok-append_refusal-in-Err-Bad.ensures
    ∙ ap (λ t. t ++ refusal_line_text c.args.line.number c.in-Err-Bad.why) c.clear.ensures.bytes)
