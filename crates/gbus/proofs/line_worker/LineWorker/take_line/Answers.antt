use Rattle.std.proofs.Common.{◌++◌, ◌∷◌, [], List, ℕ, Ok, refl, subst, sym, ap, ◌∙◌}
use Rattle.gbus.proofs.Endings.{none-behind}
use Rattle.gbus.proofs.Gathering.{gathers-more}
use Rattle.gbus.proofs.LineEnds.{before-line, reads-to, refused, refused-at, whole-line}
use Rattle.gbus.proofs.line_worker.LineWorker.take_line.Goals as goal
use Rattle.gb_base.specs.declared.status.Status.TheVariants as status
use Rattle.gbus.specs.Program.{lines_text}
use Rattle.gbus.specs.Sessions.{TurnsAs, written}
use Rattle.gbus.specs.Stages.{Gathers}
use Rattle.gb_capture.specs.declared.auditor.Turn.{Turn}

pub returns-in-Err-clause-turns : goal.returns-in-Err-clause-turns
returns-in-Err-clause-turns c = λ j left now taken after given line b g lends r.
    let old = c.args.self.now in
    none-behind _ j left now taken after (lines_text j given) status.NoMemory refl g
    (before-line old.reader old.session j left now given line r b) (λ later wrote. tt)

pub returns-in-Err-add-clause-turns : goal.returns-in-Err-add-clause-turns
returns-in-Err-add-clause-turns c = λ j left now taken after given line b g lends r.
    let old = c.args.self.now in
    none-behind _ j left now taken after (lines_text j given) status.NoMemory refl
    (subst (λ (held : List ℕ). Gathers j left now taken after held (lines_text j given))
    (sym c.in-Err-add.ensures.err) g)
    (before-line old.reader old.session j left now given line r b) (λ later wrote. tt)

pub returns-in-Next-clause-turns : goal.returns-in-Next-clause-turns
returns-in-Next-clause-turns c = λ j left now taken after given line b g lends r.
    let old = c.args.self.now in
    let new = c.take.new.self in
    let turns = c.in-Ok.ensures.turn j given line b (c.line.ensures.line line lends) in
    let next = subst (λ (t : Turn). TurnsAs new j given line (Ok t)) c.in-Next.is turns in
    record {
      given = given ++ line ∷ [];
      behind = next.behind;
      gathers = gathers-more j left now taken after old.gathered (written new) c.add.new.self
          given line g (reads-to old.reader left now given line r) next.text
          (c.in_default.ensures.ok ∙ ap (λ t. old.gathered ++ t) c.text.ensures);
      reads = r;
      number = c.requires ∙ sym c.in-Ok.ensures.number;
    }

pub returns-in-Refused-clause-turns : goal.returns-in-Refused-clause-turns
returns-in-Refused-clause-turns c = λ j left now taken after given line b g lends r.
    let old = c.args.self.now in
    let new = c.take.new.self in
    let turns = c.in-Ok.ensures.turn j given line b (c.line.ensures.line line lends) in
    let bad = subst (λ (t : Turn). TurnsAs new j given line (Ok t)) c.in-Refused.is turns in
    none-behind _ j left now taken after (lines_text j (given ++ line ∷ [])) status.Refused refl
    (gathers-more j left now taken after old.gathered (written new) c.add.new.self
    given line g (reads-to old.reader left now given line r) (bad.text [])
    (c.in_default.ensures.ok ∙ ap (λ t. old.gathered ++ t) c.text.ensures))
    (whole-line old.reader new j left now given line r bad)
    (λ later wrote. (
      refused old.reader new j left now taken later given line r bad wrote,
      refused-at old.reader old.session new j left now given line r b bad,
    ))
