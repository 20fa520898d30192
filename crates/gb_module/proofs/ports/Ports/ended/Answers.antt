-- What follows at the CPort with the number follows, and no other CPort changes.
use Rattle.std.proofs.Common.{refl, sym, subst, IsOk, Option}
use Rattle.gb_base.specs.Bytes.{AreFew}
use Rattle.gb_firmware.specs.Loading.{bytes_after}
use Rattle.gb_formats.specs.Loader.{Loader}
use Rattle.gb_formats.specs.ModuleLoads.{loader_of}
use Rattle.gb_module.specs.Loading.{follows, follows_in}
use Rattle.gb_module.proofs.Loading.{ends-at, follows-number, loader-found, runs-at}
use Rattle.gb_module.proofs.Standing.{found-at, none-stands}
use Rattle.gb_module.proofs.ports.Ports.ended.Goals as goal

pub returns-in_default-clause-step : goal.returns-in_default-clause-step
returns-in_default-clause-step c manifest =
    rw (none-stands c.args.number c.args.self.now c.place.ensures.first c.in_default.is)
    (refl, refl)

pub invariant_of-self : goal.invariant_of-self
invariant_of-self c =
    let port = c.index_mut-port.result.now in
    let found = found-at c.place.ensures.first c.in-Some.is c.self.view_is
    c.index_mut-port.ensures.value in
    found.stay c.self.inside.counted c.self.inside.places c.self.invariant c.ended.new.self
    (follows-number port c.ended.new.self
    (follows_in port.state c.args.outcome.now (loader_of port.device)) c.ended.result
    c.ended.ensures.step)

pub returns-clause-step : goal.returns-clause-step
returns-clause-step c manifest =
    let found = found-at c.place.ensures.first c.in-Some.is c.self.view_is
    c.index_mut-port.ensures.value in
    ends-at c.ended.new.self c.args.outcome.now manifest c.ended.result found
    c.ended.ensures.step

pub returns-clause-runs : goal.returns-clause-runs
returns-clause-runs c =
    let port = c.index_mut-port.result.now in
    let found = found-at c.place.ensures.first c.in-Some.is c.self.view_is
    c.index_mut-port.ensures.value in
    runs-at c.ended.new.self c.ended.result found
    (follows-number port c.ended.new.self
    (follows_in port.state c.args.outcome.now (loader_of port.device)) c.ended.result
    c.ended.ensures.step)
    c.ended.ensures.runs

pub returns-clause-few : goal.returns-clause-few
returns-clause-few c =
    let found = found-at c.place.ensures.first c.in-Some.is c.self.view_is
    c.index_mut-port.ensures.value in
    subst (λ (l : Option Loader).
    AreFew (bytes_after (follows c.args.outcome.now l)) → IsOk c.ended.result)
    (sym (loader-found found)) c.ended.ensures.few
