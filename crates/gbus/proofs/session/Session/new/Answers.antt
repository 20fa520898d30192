-- Before the first line a session stands behind none.
use Rattle.std.proofs.Common.{[], sym, subst}
use Rattle.gbus.proofs.Auditing.{audits_behind}
use Rattle.gbus.proofs.Reporting.{first_behind}
use Rattle.gbus.proofs.session.Session.new.Goals as goal
use Rattle.gbus.specs.Jobs.{line_job_seen}
use Rattle.gbus.specs.Sessions.{IsBehind}
use Rattle.gbus.specs.declared.session.Session.TheVariants as session
use Rattle.gbus.specs.declared.words.LineJob.{LineJob}

pub returns-in_ok-reporter-in-Report-clause-behind :
    goal.returns-in_ok-reporter-in-Report-clause-behind
returns-in_ok-reporter-in-Report-clause-behind c =
    subst (λ (j : LineJob). IsBehind (session.Report c.in_ok-reporter-in-Report.reporter)
    (line_job_seen j) []) (sym c.in-Report.is)
    (first_behind c.in_ok-reporter-in-Report.reporter c.in-Report.hex
    c.in_ok-reporter-in-Report.ensures.stands c.in_ok-reporter-in-Report.ensures.number
    c.in_ok-reporter-in-Report.ensures.hex)

pub returns-in_ok-auditor-in-Audit-clause-behind :
    goal.returns-in_ok-auditor-in-Audit-clause-behind
returns-in_ok-auditor-in-Audit-clause-behind c =
    subst (λ (j : LineJob). IsBehind (session.Audit c.in_ok-auditor-in-Audit.auditor)
    (line_job_seen j) []) (sym c.in-Audit.is)
    (audits_behind c.in_ok-auditor-in-Audit.auditor [] c.in_ok-auditor-in-Audit.ensures)
