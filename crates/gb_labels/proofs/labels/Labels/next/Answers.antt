-- The first from the start on, or else the first of all, is what the cyclic rule gives.
use Rattle.std.proofs.Common.{ap, ◌∙◌}
use Rattle.gb_labels.proofs.Drawing.{next_ahead, next_none, next_wrapped}
use Rattle.gb_machine.specs.Labels.{label_after}
use Rattle.gb_labels.proofs.labels.Labels.next.Goals as goal

pub returns-in-Some-clause-step : goal.returns-in-Some-clause-step
returns-in-Some-clause-step c =
    next_ahead c.args.self.now c.after-start.result c.in-Some.label
    (c.after-start.ensures ∙ ap (λ s. label_after s.last) c.self.view_is) c.in-Some.ensures

pub returns-in-Some-first_free-clause-step : goal.returns-in-Some-first_free-clause-step
returns-in-Some-first_free-clause-step c =
    next_wrapped c.args.self.now c.after-start.result c.in-Some-first_free.label
    (c.after-start.ensures ∙ ap (λ s. label_after s.last) c.self.view_is) c.in_default.ensures
    c.in-Some-first_free.ensures

pub returns-clause-step : goal.returns-clause-step
returns-clause-step c = next_none c.args.self.now c.in_default-first_free.ensures
