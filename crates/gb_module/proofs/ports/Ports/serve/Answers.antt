-- The CPort with the number serves it, and no other changes.
use Rattle.std.proofs.Common.{Option, refl, subst, sym}
use Rattle.gb_formats.specs.Module.{ModulePort}
use Rattle.gb_module.specs.Few.{FewSucceed, device_answer}
use Rattle.gb_module.proofs.Standing.{found-at, none-stands}
use Rattle.gb_module.proofs.Stepping.{serves-at, serves-number}
use Rattle.gb_module.proofs.ports.Ports.serve.Goals as goal

pub returns-in_default-clause-step : goal.returns-in_default-clause-step
returns-in_default-clause-step c manifest =
    rw (none-stands c.args.number c.args.self.now c.place.ensures.first c.in_default.is)
    (c.refused.ensures, refl)

pub invariant_of-self : goal.invariant_of-self
invariant_of-self c =
    let port = c.index_mut-port.result.now in
    let found = found-at c.place.ensures.first c.in-Some.is c.self.view_is
    c.index_mut-port.ensures.value in
    found.stay c.self.inside.counted c.self.inside.places c.self.invariant c.serve.new.self
    (serves-number port c.serve.new.self c.args.kind c.args.payload.now c.serve.result
    c.serve.ensures.step)

pub returns-clause-step : goal.returns-clause-step
returns-clause-step c manifest =
    let found = found-at c.place.ensures.first c.in-Some.is c.self.view_is
    c.index_mut-port.ensures.value in
    serves-at c.serve.new.self c.args.kind c.args.payload.now manifest c.serve.result found
    c.serve.ensures.step

pub returns-clause-few : goal.returns-clause-few
returns-clause-few c =
    let found = found-at c.place.ensures.first c.in-Some.is c.self.view_is
    c.index_mut-port.ensures.value in
    subst (λ (o : Option ModulePort).
    FewSucceed (device_answer o c.args.kind c.args.payload.now) c.serve.result)
    (sym found.found) c.serve.ensures.few
