-- A line is taken by what a session does.
use Rattle.std.proofs.Common.{Ok, sym, subst}
use Rattle.gb_capture.specs.declared.auditor.Turn.{Turn}
use Rattle.gbus.proofs.Auditing.{audits_as}
use Rattle.gbus.proofs.Reporting.{takes_line}
use Rattle.gbus.proofs.session.Session.take.Goals as goal
use Rattle.gbus.specs.Sessions.{IsBehind, TurnsAs}
use Rattle.gbus.specs.declared.session.Session.{Session}
use Rattle.gbus.specs.declared.session.Session.TheVariants as session

pub returns-in_ok-ran-in-Report-clause-turn : goal.returns-in_ok-ran-in-Report-clause-turn
returns-in_ok-ran-in-Report-clause-turn c = λ j given whole b is.
    let made = c.in_ok-ran-in-Report in
    subst (λ (t : Turn). TurnsAs (session.Report c.take.new.self) j given whole (Ok t))
    (sym c.turn_of.ensures)
    (takes_line c.in-Report.reporter c.take.new.self j given whole made.ran
    (subst (λ (s : Session). IsBehind s j given) c.in-Report.is b)
    (λ s stands. made.ensures.ran s whole stands is) made.ensures.number made.ensures.hex)

pub returns-in-Audit-clause-turn : goal.returns-in-Audit-clause-turn
returns-in-Audit-clause-turn c = λ j given whole b is.
    audits_as c.in-Audit.auditor c.take-in-Audit.new.self c.take-in-Audit.result j given whole
    (subst (λ (s : Session). IsBehind s j given) c.in-Audit.is b)
    (λ taken. c.take-in-Audit.ensures.turn given whole taken is)
