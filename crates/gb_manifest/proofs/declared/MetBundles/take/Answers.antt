use Rattle.std.proofs.Common.{arith, ap, ◌∙◌}
use Rattle.gb_manifest.specs.Declarations.{first_place}
use Rattle.gb_manifest.proofs.Declarations.{bundle_taken}
use Rattle.gb_manifest.proofs.declared.MetBundles.take.Goals as goal

pub returns : goal.returns
returns c before class h =
    bundle_taken _ _ before _ c.args.id class (omega arith)
    (c.first_place-self.ensures
    ∙ ap (λ b. first_place c.args.self.now.twice b c.args.at) c.contains.ensures) c.add.ensures h
