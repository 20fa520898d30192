-- What the CPorts of the module do, the module does at CPorts other than 0.
use Rattle.std.proofs.Common.{◌≡◌, ◌==◌, Bool, false, arith, cond, subst, sym}
use Rattle.std.proofs.lemmas.Bool.Decides.{nat_tests}
use Rattle.gb_bridge_payload.specs.Serving.{ServesAs}
use Rattle.gb_formats.specs.ControlResponder.{control_step}
use Rattle.gb_formats.specs.Module.{Module, port_at}
use Rattle.gb_formats.specs.ModuleSteps.{port_served}
use Rattle.gb_module.specs.Few.{FewSucceed, device_answer}
use Rattle.gb_module.specs.Steps.{with_ports}
use Rattle.gb_module.proofs.module.Module.serve.Goals as goal

pub returns-clause-step : goal.returns-clause-step
returns-clause-step c =
    let other = c.if-cport-eq-CONTROL_CPORT.false in
    let differs : (c.args.cport == 0) ≡ false = grind (arith, nat_tests, other) in
    subst (λ (b : Bool). ServesAs (cond b
    (control_step c.args.self.now c.args.kind c.args.payload.now)
    (port_served c.args.self.now (port_at c.args.self.now c.args.cport) c.args.kind
    c.args.payload.now))
    c.args.self.now (with_ports c.self.inside.manifest c.serve.new.self) c.serve.result)
    (sym differs)
    (subst (λ (m : Module).
    ServesAs (port_served m (port_at m c.args.cport) c.args.kind c.args.payload.now) m
    (with_ports c.self.inside.manifest c.serve.new.self) c.serve.result)
    c.self.view_is (c.serve.ensures.step c.self.inside.manifest))

pub returns-clause-few : goal.returns-clause-few
returns-clause-few c =
    let other = c.if-cport-eq-CONTROL_CPORT.false in
    let differs : (c.args.cport == 0) ≡ false = grind (arith, nat_tests, other) in
    subst (λ (b : Bool). FewSucceed (cond b
    (control_step c.args.self.now c.args.kind c.args.payload.now).served
    (device_answer (port_at c.args.self.now c.args.cport) c.args.kind c.args.payload.now))
    c.serve.result)
    (sym differs)
    (subst (λ (m : Module).
    FewSucceed (device_answer (port_at m c.args.cport) c.args.kind c.args.payload.now)
    c.serve.result)
    c.self.view_is c.serve.ensures.few)
