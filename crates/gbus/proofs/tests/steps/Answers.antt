-- A line that is read gives an event that is valid.
use Rattle.std.proofs.Common.{Ok, ap, ◌∙◌}
use Rattle.gb_formats.proofs.JudgedValid.{judged-valid}
use Rattle.gbus.proofs.tests.steps.Goals as goal

pub step-requires-clause-valid : goal.step-requires-clause-valid
step-requires-clause-valid g c =
    judged-valid 0 c.args.line.now c.in-Ok-Some.e
    (c.in-Ok-Some.ensures ∙ ap Ok c.in-Ok-Some.field-0-is)
