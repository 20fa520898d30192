-- A line that the reporter took was taken by the session.
use Rattle.std.proofs.Common.{◌+◌, ◌<◌, Ok, subst}
use Rattle.gb_session.specs.Reporting.{RunsAs}
use Rattle.gb_session.specs.declared.reporter.Ran.{Ran}
use Rattle.gb_session.proofs.Sessions.{takes-line, takes-none}
use Rattle.gb_session.proofs.session.run_in.Goals as goal

pub returns-in-Ok-Done : goal.returns-in-Ok-Done
returns-in-Ok-Done c = λ hex n s stands.
    let ran = subst (λ (r : Ran). RunsAs c.take.new.self c.args.line.now s (Ok r))
    c.in-Ok-Done.field-0-is
    (c.in-Ok-Done.ensures.ran s c.args.line.now stands.2 c.numbered.ensures.line) in (
      ran.0,
      takes-line c.args.reporter.now c.take.new.self hex n c.args.line.now s stands ran.1
          c.in-Ok-Done.ensures.number c.in-Ok-Done.ensures.hex,
    )

pub returns-in-Ok-Bad : goal.returns-in-Ok-Bad
returns-in-Ok-Bad c = λ hex n s stands.
    let ran = subst (λ (r : Ran). RunsAs c.take.new.self c.args.line.now s (Ok r))
    c.in-Ok-Bad.field-0-is
    (c.in-Ok-Bad.ensures.ran s c.args.line.now stands.2 c.numbered.ensures.line) in (
      ran.0,
      takes-line c.args.reporter.now c.take.new.self hex n c.args.line.now s stands ran.1
          c.in-Ok-Bad.ensures.number c.in-Ok-Bad.ensures.hex,
    )

pub returns-in_default : goal.returns-in_default
returns-in_default c = λ hex n s stands.
    let number = c.number.ensures in
    takes-none c.args.reporter.now c.clear.new.self hex n s stands
    (subst (λ k. k < 4294967296) number c.number.type_inv)
    (subst (λ k. ¬ (k + 1 < 4294967296)) number c.in_default.ensures) c.clear.ensures.text
    (c.clear.ensures.stands s) c.clear.ensures.number c.clear.ensures.hex
