-- What was read, answered and written, together.
use Rattle.std.proofs.Common.{Some, option_map, sym, ap, ◌∙◌}
use Rattle.gbus.proofs.Fronts.{all_taken, part_taken}
use Rattle.gbus.proofs.Limits.{nothing-read}
use Rattle.gbus.proofs.Runs.{answered, complete, keeps_headline, no-read-fault, no-usage}
use Rattle.gbus.proofs.Runs.{no-write-fault, of_run, some-job, unwritten, within}
use Rattle.gbus.proofs.ByLine.{by-line-answered, by-line-complete, by-line-cut, by-line-is}
use Rattle.gbus.proofs.ByLine.{by-line-reads, by-line-refused, by-line-short, by-line-within}
use Rattle.gbus.proofs.ByLine.{lines-end, lines-read, lines-usage, lines-write}
use Rattle.gbus.proofs.run.run.Goals as goal
use Rattle.gbus.specs.Jobs.{job_seen, line_job_seen, task_seen}
use Rattle.gbus.specs.Program.{ByLine, reads}

pub returns-clause-traced : goal.returns-clause-traced
returns-clause-traced g c = of_run _

pub returns-in_default-clause-traced : goal.returns-in_default-clause-traced
returns-in_default-clause-traced g c = of_run _

pub returns-in-Err-Failed-clause-traced : goal.returns-in-Err-Failed-clause-traced
returns-in-Err-Failed-clause-traced g c = of_run _

pub returns-in-Err-Memory-clause-traced : goal.returns-in-Err-Memory-clause-traced
returns-in-Err-Memory-clause-traced g c = of_run _

pub returns-in-Ok-write_all-clause-traced : goal.returns-in-Ok-write_all-clause-traced
returns-in-Ok-write_all-clause-traced g c = of_run _

pub returns-in-Err-Failed-write_all-clause-traced :
    goal.returns-in-Err-Failed-write_all-clause-traced
returns-in-Err-Failed-write_all-clause-traced g c = of_run _

pub returns-clause-headline : goal.returns-clause-headline
returns-clause-headline g c = keeps_headline _

pub returns-in_default-clause-headline : goal.returns-in_default-clause-headline
returns-in_default-clause-headline g c = keeps_headline _

pub returns-in-Err-Failed-clause-headline : goal.returns-in-Err-Failed-clause-headline
returns-in-Err-Failed-clause-headline g c = keeps_headline _

pub returns-in-Err-Memory-clause-headline : goal.returns-in-Err-Memory-clause-headline
returns-in-Err-Memory-clause-headline g c = keeps_headline _

pub returns-in-Ok-write_all-clause-headline : goal.returns-in-Ok-write_all-clause-headline
returns-in-Ok-write_all-clause-headline g c = keeps_headline _

pub returns-in-Err-Failed-write_all-clause-headline :
    goal.returns-in-Err-Failed-write_all-clause-headline
returns-in-Err-Failed-write_all-clause-headline g c = keeps_headline _

pub returns-in-ByLine-clause-headline : goal.returns-in-ByLine-clause-headline
returns-in-ByLine-clause-headline g c = keeps_headline _

pub returns-in-Ok-write_all-clause-answered : goal.returns-in-Ok-write_all-clause-answered
returns-in-Ok-write_all-clause-answered g c = λ v.
    answered _ (task_seen c.in-Task.task) c.in-Ok.answer _ _ _ _
    (sym (ap (λ j. Some (job_seen j)) c.in-Task.is)
    ∙ sym (ap (option_map job_seen) c.in-Some.is) ∙ c.job_of.ensures.job) c.in-Ok.ensures.answer
    c.items.ensures c.in-Ok-write_all.ensures.bytes

pub returns-in-Ok-write_all-clause-prefix : goal.returns-in-Ok-write_all-clause-prefix
returns-in-Ok-write_all-clause-prefix g c =
    within _ (task_seen c.in-Task.task) c.in-Ok.answer _ _ _ _
    (sym (ap (λ j. Some (job_seen j)) c.in-Task.is)
    ∙ sym (ap (option_map job_seen) c.in-Some.is) ∙ c.job_of.ensures.job) c.in-Ok.ensures.answer
    c.items.ensures (all_taken _ _ _ c.in-Ok-write_all.ensures.bytes)

pub returns-in-Ok-write_all-clause-complete : goal.returns-in-Ok-write_all-clause-complete
returns-in-Ok-write_all-clause-complete g c =
    complete _ (task_seen c.in-Task.task) c.in-Ok.answer _ _ _ _ _
    (sym (ap (λ j. Some (job_seen j)) c.in-Task.is)
    ∙ sym (ap (option_map job_seen) c.in-Some.is) ∙ c.job_of.ensures.job) c.in-Ok.ensures.answer

pub returns-in-Ok-write_all-clause-at_end : goal.returns-in-Ok-write_all-clause-at_end
returns-in-Ok-write_all-clause-at_end g c = λ r good.
    c.in-Ok.ensures.at_end
    (ap reads (sym (ap (λ j. Some (job_seen j)) c.in-Task.is)
    ∙ sym (ap (option_map job_seen) c.in-Some.is) ∙ c.job_of.ensures.job) ∙ r) good

pub returns-in-Ok-write_all-clause-kept : goal.returns-in-Ok-write_all-clause-kept
returns-in-Ok-write_all-clause-kept g c = λ r.
    c.answer_for.ensures.kept
    (ap reads (sym (ap (λ j. Some (job_seen j)) c.in-Task.is)
    ∙ sym (ap (option_map job_seen) c.in-Some.is) ∙ c.job_of.ensures.job) ∙ r)

pub returns-in-Err-Failed-write_all-clause-prefix :
    goal.returns-in-Err-Failed-write_all-clause-prefix
returns-in-Err-Failed-write_all-clause-prefix g c =
    within _ (task_seen c.in-Task.task) c.in-Ok.answer _ _ _ _
    (sym (ap (λ j. Some (job_seen j)) c.in-Task.is)
    ∙ sym (ap (option_map job_seen) c.in-Some.is) ∙ c.job_of.ensures.job) c.in-Ok.ensures.answer
    c.items.ensures (part_taken _ _ _ (c.in-Err-Failed-write_all.ensures.bytes).0)

pub returns-in-Err-Failed-write_all-clause-kept : goal.returns-in-Err-Failed-write_all-clause-kept
returns-in-Err-Failed-write_all-clause-kept g c = λ r.
    c.answer_for.ensures.kept
    (ap reads (sym (ap (λ j. Some (job_seen j)) c.in-Task.is)
    ∙ sym (ap (option_map job_seen) c.in-Some.is) ∙ c.job_of.ensures.job) ∙ r)

pub returns-clause-prefix : goal.returns-clause-prefix
returns-clause-prefix g c =
    within _ (task_seen c.in-Task.task) c.in-Ok.answer _ _ _ _
    (sym (ap (λ j. Some (job_seen j)) c.in-Task.is)
    ∙ sym (ap (option_map job_seen) c.in-Some.is) ∙ c.job_of.ensures.job) c.in-Ok.ensures.answer
    c.items.ensures (part_taken _ _ _ (c.in-Err-Memory-write_all.ensures.bytes).0)

pub returns-clause-kept : goal.returns-clause-kept
returns-clause-kept g c = λ r.
    c.answer_for.ensures.kept
    (ap reads (sym (ap (λ j. Some (job_seen j)) c.in-Task.is)
    ∙ sym (ap (option_map job_seen) c.in-Some.is) ∙ c.job_of.ensures.job) ∙ r)

pub returns-in-Err-Failed-clause-kept : goal.returns-in-Err-Failed-clause-kept
returns-in-Err-Failed-clause-kept g c = λ r.
    c.answer_for.ensures.kept
    (ap reads (sym (ap (λ j. Some (job_seen j)) c.in-Task.is)
    ∙ sym (ap (option_map job_seen) c.in-Some.is) ∙ c.job_of.ensures.job) ∙ r)

pub returns-in-Err-Memory-clause-kept : goal.returns-in-Err-Memory-clause-kept
returns-in-Err-Memory-clause-kept g c = λ r.
    c.answer_for.ensures.kept
    (ap reads (sym (ap (λ j. Some (job_seen j)) c.in-Task.is)
    ∙ sym (ap (option_map job_seen) c.in-Some.is) ∙ c.job_of.ensures.job) ∙ r)

pub returns-in-Err-Failed-clause-prefix : goal.returns-in-Err-Failed-clause-prefix
returns-in-Err-Failed-clause-prefix g c = unwritten _ _ _

pub returns-in-Err-Memory-clause-prefix : goal.returns-in-Err-Memory-clause-prefix
returns-in-Err-Memory-clause-prefix g c = unwritten _ _ _

pub returns-in-Ok-write_all-clause-usage : goal.returns-in-Ok-write_all-clause-usage
returns-in-Ok-write_all-clause-usage g c = (
  (λ e. absurd (no-usage c.in-Ok.answer.status c.in-Ok.ensures.verdict e)),
  (λ none. absurd (some-job _ (task_seen c.in-Task.task)
      (sym (ap (λ j. Some (job_seen j)) c.in-Task.is)
      ∙ sym (ap (option_map job_seen) c.in-Some.is) ∙ c.job_of.ensures.job) none)),
)

pub returns-in-Ok-write_all-clause-untouched : goal.returns-in-Ok-write_all-clause-untouched
returns-in-Ok-write_all-clause-untouched g c = λ e.
    absurd (no-usage c.in-Ok.answer.status c.in-Ok.ensures.verdict e)

pub returns-in-Ok-write_all-clause-read : goal.returns-in-Ok-write_all-clause-read
returns-in-Ok-write_all-clause-read g c = λ e.
    absurd (no-read-fault c.in-Ok.answer.status c.in-Ok.ensures.verdict e)

pub returns-in-Ok-write_all-clause-unread : goal.returns-in-Ok-write_all-clause-unread
returns-in-Ok-write_all-clause-unread g c = λ e.
    absurd (no-read-fault c.in-Ok.answer.status c.in-Ok.ensures.verdict e)

pub returns-in-Ok-write_all-clause-write : goal.returns-in-Ok-write_all-clause-write
returns-in-Ok-write_all-clause-write g c = λ e.
    absurd (no-write-fault c.in-Ok.answer.status c.in-Ok.ensures.verdict e)

pub returns-in-ByLine-clause-traced : goal.returns-in-ByLine-clause-traced
returns-in-ByLine-clause-traced g c = of_run _

pub returns-in-ByLine-clause-answered : goal.returns-in-ByLine-clause-answered
returns-in-ByLine-clause-answered g c =
    rw c.status_of.ensures
    (by-line-answered _ (line_job_seen c.in-ByLine.job) _ _ _ _ _
    (sym (ap (λ j. Some (job_seen j)) c.in-ByLine.is)
    ∙ sym (ap (option_map job_seen) c.in-Some.is) ∙ c.job_of.ensures.job)
    c.work_by_line.ensures.ends)

pub returns-in-ByLine-clause-at_end : goal.returns-in-ByLine-clause-at_end
returns-in-ByLine-clause-at_end g c =
    λ r e. lines-end (line_job_seen c.in-ByLine.job) _ _ _ _ _ c.work_by_line.ensures.ends
    (sym c.status_of.ensures ∙ e)

pub returns-in-ByLine-clause-kept : goal.returns-in-ByLine-clause-kept
returns-in-ByLine-clause-kept g c =
    λ r. absurd (by-line-reads _ (line_job_seen c.in-ByLine.job)
    (sym (ap (λ j. Some (job_seen j)) c.in-ByLine.is)
    ∙ sym (ap (option_map job_seen) c.in-Some.is) ∙ c.job_of.ensures.job) r)

pub returns-in-ByLine-clause-prefix : goal.returns-in-ByLine-clause-prefix
returns-in-ByLine-clause-prefix g c =
    by-line-within _ (line_job_seen c.in-ByLine.job) _ _ _
    (sym (ap (λ j. Some (job_seen j)) c.in-ByLine.is)
    ∙ sym (ap (option_map job_seen) c.in-Some.is) ∙ c.job_of.ensures.job)
    c.work_by_line.ensures.prefix

pub returns-in-ByLine-clause-read : goal.returns-in-ByLine-clause-read
returns-in-ByLine-clause-read g c =
    rw c.status_of.ensures
    (lines-read _ _ _ _ _ c.work_by_line.ensures.faults)

pub returns-in-ByLine-clause-unread : goal.returns-in-ByLine-clause-unread
returns-in-ByLine-clause-unread g c =
    λ e r. absurd (by-line-is _ (line_job_seen c.in-ByLine.job)
    (sym (ap (λ j. Some (job_seen j)) c.in-ByLine.is)
    ∙ sym (ap (option_map job_seen) c.in-Some.is) ∙ c.job_of.ensures.job) r)

pub returns-in-ByLine-clause-write : goal.returns-in-ByLine-clause-write
returns-in-ByLine-clause-write g c =
    rw c.status_of.ensures
    (lines-write _ _ _ _ _ c.work_by_line.ensures.faults)

pub returns-in-ByLine-clause-cut_off : goal.returns-in-ByLine-clause-cut_off
returns-in-ByLine-clause-cut_off g c =
    rw c.status_of.ensures
    (by-line-cut _ (line_job_seen c.in-ByLine.job) _ _ _ _ _
    (sym (ap (λ j. Some (job_seen j)) c.in-ByLine.is)
    ∙ sym (ap (option_map job_seen) c.in-Some.is) ∙ c.job_of.ensures.job)
    c.work_by_line.ensures.ends)

pub returns-in-ByLine-clause-stops_short : goal.returns-in-ByLine-clause-stops_short
returns-in-ByLine-clause-stops_short g c =
    rw c.status_of.ensures
    (by-line-short _ (line_job_seen c.in-ByLine.job) _ _ _ _ _
    (sym (ap (λ j. Some (job_seen j)) c.in-ByLine.is)
    ∙ sym (ap (option_map job_seen) c.in-Some.is) ∙ c.job_of.ensures.job)
    c.work_by_line.ensures.ends)

pub returns-in-ByLine-clause-refused_at : goal.returns-in-ByLine-clause-refused_at
returns-in-ByLine-clause-refused_at g c =
    rw c.status_of.ensures
    (by-line-refused _ (line_job_seen c.in-ByLine.job) _ _ _ _ _
    (sym (ap (λ j. Some (job_seen j)) c.in-ByLine.is)
    ∙ sym (ap (option_map job_seen) c.in-Some.is) ∙ c.job_of.ensures.job)
    c.work_by_line.ensures.ends)

pub returns-in-ByLine-clause-complete : goal.returns-in-ByLine-clause-complete
returns-in-ByLine-clause-complete g c =
    rw c.status_of.ensures
    (by-line-complete _ (line_job_seen c.in-ByLine.job) _ _ _ _ _ _ _ _ _
    (sym (ap (λ j. Some (job_seen j)) c.in-ByLine.is)
    ∙ sym (ap (option_map job_seen) c.in-Some.is) ∙ c.job_of.ensures.job)
    c.work_by_line.ensures.ends
    c.work_by_line.ensures.faults)

pub returns-in-ByLine-clause-usage : goal.returns-in-ByLine-clause-usage
returns-in-ByLine-clause-usage g c = (
  (λ e. absurd (lines-usage (line_job_seen c.in-ByLine.job) _ _ _ _ _
      c.work_by_line.ensures.ends (sym c.status_of.ensures ∙ e))),
  (λ none. absurd (some-job _ (ByLine (line_job_seen c.in-ByLine.job))
      (sym (ap (λ j. Some (job_seen j)) c.in-ByLine.is)
      ∙ sym (ap (option_map job_seen) c.in-Some.is) ∙ c.job_of.ensures.job) none)),
)

pub returns-in-ByLine-clause-untouched : goal.returns-in-ByLine-clause-untouched
returns-in-ByLine-clause-untouched g c = λ e.
    absurd (lines-usage (line_job_seen c.in-ByLine.job) _ _ _ _ _ c.work_by_line.ensures.ends
    (sym c.status_of.ensures ∙ e))

pub returns-in_default-clause-limit : goal.returns-in_default-clause-limit
returns-in_default-clause-limit g c = nothing-read (g.S.Source.left c.args.source.now)
