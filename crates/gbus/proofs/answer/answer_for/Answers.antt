-- What is answered to an input that was read is the answer of the job.
use Rattle.std.proofs.Common.{sym, subst}
use Rattle.gbus.proofs.Runs.{read-verdict, share-answer, share-at-end, share-verdict}
use Rattle.gbus.proofs.Runs.{whole-answer}
use Rattle.gbus.proofs.answer.answer_for.Goals as goal
use Rattle.gbus.specs.Jobs.{task_seen, whole_job_seen}
use Rattle.gbus.specs.Runs.{IsAnswerOf}
use Rattle.gbus.specs.declared.words.Task.{Task}

pub returns-in_ok-answer-in-Whole-clause-answer : goal.returns-in_ok-answer-in-Whole-clause-answer
returns-in_ok-answer-in-Whole-clause-answer g c =
    subst (λ (t : Task). IsAnswerOf (task_seen t) (g.S.Source.left c.args.source.now)
    c.in_ok-answer-in-Whole.answer) (sym c.in-Whole.is)
    (whole-answer (whole_job_seen c.in-Whole.job) c.in_ok-input-in-Whole.input
    (g.S.Source.left c.args.source.now) c.in_ok-answer-in-Whole.answer
    c.in_ok-input-in-Whole.ensures.input c.in_ok-answer-in-Whole.ensures.text
    c.in_ok-answer-in-Whole.ensures.status)

pub returns-in_ok-answer-in-Whole-clause-verdict :
    goal.returns-in_ok-answer-in-Whole-clause-verdict
returns-in_ok-answer-in-Whole-clause-verdict g c =
    read-verdict (whole_job_seen c.in-Whole.job) c.in_ok-input-in-Whole.input
    c.in_ok-answer-in-Whole.answer.status c.in_ok-answer-in-Whole.ensures.status

pub returns-in_ok-answer-in-Share-clause-answer : goal.returns-in_ok-answer-in-Share-clause-answer
returns-in_ok-answer-in-Share-clause-answer g c =
    subst (λ (t : Task). IsAnswerOf (task_seen t) (g.S.Source.left c.args.source.now)
    c.in_ok-answer-in-Share.answer) (sym c.in-Share.is)
    (share-answer c.in-Share.hex c.in_ok-input-in-Share.input
    (g.S.Source.left c.args.source.now) c.in_ok-answer-in-Share.answer
    c.in_ok-input-in-Share.ensures.input c.in_ok-answer-in-Share.ensures.text
    c.in_ok-answer-in-Share.ensures.status)

pub returns-in_ok-answer-in-Share-clause-verdict :
    goal.returns-in_ok-answer-in-Share-clause-verdict
returns-in_ok-answer-in-Share-clause-verdict g c =
    share-verdict c.in_ok-input-in-Share.input
    c.in_ok-answer-in-Share.answer.status c.in_ok-answer-in-Share.ensures.status

pub returns-in_ok-answer-in-Share-clause-at_end :
    goal.returns-in_ok-answer-in-Share-clause-at_end
returns-in_ok-answer-in-Share-clause-at_end g c = λ r good.
    share-at-end c.in_ok-input-in-Share.input _ _ (g.S.Source.faults c.args.source.now)
    (g.S.Source.faults c.read_all-in-Share.new.source)
    c.in_ok-answer-in-Share.answer.status c.in_ok-input-in-Share.ensures.bytes
    c.in_ok-answer-in-Share.ensures.status good
