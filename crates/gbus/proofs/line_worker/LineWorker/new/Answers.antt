use Rattle.std.proofs.Common.{ℕ, List, [], subst, sym, ◌∙◌}
use Rattle.gbus.proofs.Gathering.{gathers-none}
use Rattle.gbus.proofs.LineJobs.{text-none}
use Rattle.gbus.specs.Jobs.{line_job_seen}
use Rattle.gbus.specs.Program.{lines_text}
use Rattle.gbus.specs.Stages.{Gathers}
use Rattle.gbus.proofs.line_worker.LineWorker.new.Goals as goal

pub returns : goal.returns
returns c = λ left taken.
    let read = c.in_ok-new.ensures left in
    let j = line_job_seen c.args.job in
    record {
      given = [];
      behind = c.in_ok-new-2.ensures.behind;
      gathers = subst (λ (held : List ℕ). Gathers j left left taken taken held (lines_text j []))
          (sym c.new-3.ensures)
          (gathers-none j left left taken (lines_text j []) (sym (text-none j)));
      reads = read;
      number = read.number ∙ sym c.in_ok-new-2.ensures.number;
    }
