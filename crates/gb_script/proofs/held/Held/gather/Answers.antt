use Rattle.std.proofs.Common.{◌<◌, ◌++◌, ℕ, List, length, take, length-append, length-drop, subst}
use Rattle.std.proofs.Common.{ap, ◌∙◌, arith}
use Rattle.std.proofs.lemmas.List.{length-take}
use Rattle.std.proofs.lemmas.Result.{err_from_is_err_and}
use Rattle.gb_script.proofs.Readings.{beyond-told, ended-beyond, line-ended, plain-beyond}
use Rattle.gb_script.proofs.Readings.{plain-both, plain-front, refilled, took-on}
use Rattle.gb_script.specs.Reading.{Took}
use Rattle.gb_script.proofs.held.Held.gather.Goals as goal

pub returns-in_err-end-clause-line : goal.returns-in_err-end-clause-line
returns-in_err-end-clause-line g c =
    let inv = c.loop-self.invariant in
    let p = err_from_is_err_and c.from_residual-in_err-end.result
    c.from_residual-in_err-end.ensures.1 in
    beyond-told c.args.self.now c.end.new.self (g.S.Source.left c.args.source.now)
    (g.S.Source.left c.fill.new.source) c.from_residual-in_err-end.result p.0 p.1
    (p.2 ∙ c.in_err-end.ensures.long)
    (ended-beyond c.args.self.now c.loop-self.self c.fill.new.self
    (g.S.Source.left c.args.source.now) (g.S.Source.left c.loop-self.source)
    (g.S.Source.left c.fill.new.source) c.in_ok-fill.field-0 inv.raw inv.plain inv.taken inv.room
    c.in_ok-fill.ensures.bytes c.in-Some.n c.in-Some.ensures
    c.in_err-end.ensures.beyond (c.fill.ensures.few inv.few))

pub returns-in-Some-clause-line : goal.returns-in-Some-clause-line
returns-in-Some-clause-line g c =
    let inv = c.loop-self.invariant in
    line-ended c.args.self.now c.loop-self.self c.fill.new.self
    (g.S.Source.left c.args.source.now) (g.S.Source.left c.loop-self.source)
    (g.S.Source.left c.fill.new.source) c.in_ok-fill.field-0 inv.raw inv.plain inv.taken inv.room
    c.in_ok-fill.ensures.bytes c.end.new.self c.in-Some.n
    c.in-Some.ensures (c.in_ok-end.ensures inv.raw inv.gathers)

pub returns-in_err-take-clause-line : goal.returns-in_err-take-clause-line
returns-in_err-take-clause-line g c =
    let inv = c.loop-self.invariant in
    let p = err_from_is_err_and c.from_residual-in_err-take.result
    c.from_residual-in_err-take.ensures.1 in
    beyond-told c.args.self.now c.take.new.self (g.S.Source.left c.args.source.now)
    (g.S.Source.left c.fill.new.source) c.from_residual-in_err-take.result p.0 p.1
    (p.2 ∙ c.in_err-take.ensures.long)
    (plain-beyond c.args.self.now c.loop-self.self c.fill.new.self
    (g.S.Source.left c.args.source.now) (g.S.Source.left c.loop-self.source)
    (g.S.Source.left c.fill.new.source) c.in_ok-fill.field-0 inv.raw inv.plain inv.taken inv.room
    c.in_ok-fill.ensures.bytes c.in_default.ensures
    (subst (λ (l : List ℕ). c.loop-self.self.room < length l) c.left-n.ensures
    c.in_err-take.ensures.beyond) (c.fill.ensures.few inv.few))

pub loop-self-preserved : goal.loop-self-preserved
loop-self-preserved g c =
    let inv = c.loop-self.invariant in
    let piece = c.fill.new.self in
    let n : ℕ = length c.left-n.result.now in
    let took : Took (refilled c.loop-self.self piece) c.take.new.self n n =
    c.in_ok-take.ensures in
    record {
      raw = inv.raw ++ take n piece.left;
      plain =
          plain-both inv.raw (take n piece.left) inv.plain
          (plain-front n piece.left c.in_default.ensures);
      taken =
          took-on c.args.self.now c.loop-self.self c.fill.new.self
          (g.S.Source.left c.args.source.now) (g.S.Source.left c.loop-self.source)
          (g.S.Source.left c.fill.new.source) c.in_ok-fill.field-0 inv.raw inv.plain inv.taken
          inv.room c.in_ok-fill.ensures.bytes c.take.new.self n n took;
      gathers = took.kept inv.raw inv.gathers;
      room =
          rw (length-append inv.raw (take n piece.left), length-take n piece.left)
          (omega (arith, inv.room, took.room, ap length c.left-n.ensures));
      within = inv.within;
      few =
          omega (
            arith,
            ap length took.taken,
            length-drop n piece.left,
            c.fill.ensures.few inv.few,
          );
      later = omega (arith, inv.later, c.fill.ensures.later);
    }
