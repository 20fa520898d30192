use Rattle.std.proofs.Common.{arith, ap, ◌∙◌}
use Rattle.gb_manifest.specs.Declarations.{first_place}
use Rattle.gb_manifest.proofs.Declarations.{words_taken}
use Rattle.gb_manifest.proofs.declared.MetStrings.take.Goals as goal

pub returns : goal.returns
returns c before bytes h =
    words_taken _ _ before _ c.args.id bytes (omega arith) c.first_place-self.ensures
    (c.first_place-self-2.ensures
    ∙ ap (λ b. first_place c.args.self.now.twice b c.args.at) c.contains.ensures) c.add.ensures h
