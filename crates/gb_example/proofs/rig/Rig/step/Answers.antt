-- An event more was run.
use Rattle.std.proofs.Common.{arith, ◌++◌, ◌+◌, ap, false, length, ◌∙◌}
use Rattle.gb_example.specs.Example.{HasRun, report_of, state_after}
use Rattle.gb_formats.specs.Texts.{entries_text}
use Rattle.gb_example.proofs.rig.Rig.step.Goals as goal

pub returns-clause-run : goal.returns-clause-run
unfolding HasRun report_of state_after
returns-clause-run c = λ es run.
    let steps = c.in_ok-step_into.ensures.step (state_after es) run.stands in
    record {
      stands = steps.1;
      report = c.in_ok-append_all.ensures
          ∙ ap (λ t. t ++ entries_text (c.args.self.now.events + 1) false c.items.result.now)
          run.report
          ∙ ap (λ n. report_of es ++ entries_text (n + 1) false c.items.result.now) run.count
          ∙ ap (λ xs. report_of es ++ entries_text (length es + 1) false xs)
          (c.items.ensures ∙ steps.0);
      count = omega (arith, run.count);
    }
