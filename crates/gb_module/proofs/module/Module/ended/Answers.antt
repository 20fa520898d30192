-- What the CPorts of the module do, the module does.
use Rattle.std.proofs.Common.{subst}
use Rattle.gb_formats.specs.Module.{Module}
use Rattle.gb_formats.specs.ModuleLoads.{module_ended}
use Rattle.gb_module.specs.Loading.{EndsAs}
use Rattle.gb_module.specs.Steps.{with_ports}
use Rattle.gb_module.proofs.module.Module.ended.Goals as goal

pub returns-clause-step : goal.returns-clause-step
returns-clause-step c =
    subst (λ (m : Module). EndsAs (module_ended m c.args.cport c.args.outcome.now) m
    (with_ports c.self.inside.manifest c.ended.new.self) c.ended.result)
    c.self.view_is (c.ended.ensures.step c.self.inside.manifest)
