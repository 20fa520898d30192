-- The LF is held before anything is read.
use Rattle.std.proofs.Common.{◌∙◌}
use Rattle.std.proofs.lemmas.Result.{err_from_is_err_and}
use Rattle.gb_script.proofs.Readings.{beyond-told, held-beyond, held-ended}
use Rattle.gb_script.proofs.held.Held.read_line.Goals as goal

pub returns-in_err-lend-clause-line : goal.returns-in_err-lend-clause-line
returns-in_err-lend-clause-line g c =
    let p = err_from_is_err_and c.from_residual.result c.from_residual.ensures.1 in
    beyond-told c.args.self.now c.lend.new.self (g.S.Source.left c.args.source.now)
    (g.S.Source.left c.args.source.now) c.from_residual.result p.0 p.1
    (p.2 ∙ c.in_err-lend.ensures.long)
    (held-beyond c.args.self.now (g.S.Source.left c.args.source.now) c.in-Some.n
    c.in-Some.ensures c.in_err-lend.ensures.beyond c.requires.few)

pub returns-clause-line : goal.returns-clause-line
returns-clause-line g c =
    held-ended c.args.self.now (g.S.Source.left c.args.source.now) c.in-Some.n c.in-Some.ensures
    c.lend.new.self c.in_ok-lend.ensures
