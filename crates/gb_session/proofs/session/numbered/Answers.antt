use Rattle.std.proofs.Common.{take, refl, ap, ◌∙◌}
use Rattle.std.proofs.lemmas.List.{take_min}
use Rattle.gb_session.proofs.session.numbered.Goals as goal

pub returns-clause-line : goal.returns-clause-line
returns-clause-line c =
    (ap (λ n. take n c.args.line.now) c.min.ensures ∙ take_min 8192 c.args.line.now, refl)
