-- What the CPorts of the module do, the module does.
use Rattle.std.proofs.Common.{subst}
use Rattle.gb_formats.specs.Module.{Module}
use Rattle.gb_formats.specs.ModuleSteps.{module_stir}
use Rattle.gb_module.specs.Steps.{with_ports}
use Rattle.gb_module.specs.Stirring.{StirsAs}
use Rattle.gb_module.specs.Views.{stir_of}
use Rattle.gb_module.proofs.module.Module.stir.Goals as goal

pub returns : goal.returns
returns c =
    subst (λ (m : Module). StirsAs (module_stir m c.args.cport (stir_of c.args.what)) m
    (with_ports c.self.inside.manifest c.stir.new.self) c.stir.result)
    c.self.view_is (c.stir.ensures c.self.inside.manifest)
