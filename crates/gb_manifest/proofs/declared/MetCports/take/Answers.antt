use Rattle.std.proofs.Common.{refl, arith, ap, ◌∙◌}
use Rattle.gb_manifest.specs.Declarations.{first_place}
use Rattle.gb_manifest.proofs.Declarations.{cport_taken, cport_above_taken}
use Rattle.gb_manifest.proofs.declared.MetCports.take.Goals as goal

pub returns-then-id-le-GREATEST_CPORT : goal.returns-then-id-le-GREATEST_CPORT
returns-then-id-le-GREATEST_CPORT c before h =
    cport_taken _ _ before _ c.args.id c.args.bundle c.args.protocol _ (omega arith)
    (c.is_wrong_control.ensures before) c.first_place-self.ensures c.first_place-self-2.ensures
    (c.first_place-self-then-id-le-GREATEST_CPORT.ensures
    ∙ ap (λ b. first_place c.args.self.now.twice b c.args.at) c.contains.ensures) c.add.ensures h

pub returns-else-id-le-GREATEST_CPORT : goal.returns-else-id-le-GREATEST_CPORT
returns-else-id-le-GREATEST_CPORT c before h =
    cport_above_taken _ _ before _ c.args.id c.args.bundle c.args.protocol _ (omega arith)
    (c.is_wrong_control.ensures before) c.first_place-self.ensures c.first_place-self-2.ensures refl
    h
