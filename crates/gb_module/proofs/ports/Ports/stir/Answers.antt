-- The CPort with the number is stirred, and no other changes.
use Rattle.std.proofs.Common.{refl}
use Rattle.gb_formats.specs.Devices.{device_stir}
use Rattle.gb_module.specs.Views.{stir_of}
use Rattle.gb_module.proofs.Standing.{found-at, none-stands}
use Rattle.gb_module.proofs.Stepping.{stirs-at, stirs-number}
use Rattle.gb_module.proofs.ports.Ports.stir.Goals as goal

pub returns-in_default : goal.returns-in_default
returns-in_default c manifest =
    rw (none-stands c.args.number c.args.self.now c.place.ensures.first c.in_default.is)
    (refl, refl)

pub invariant_of-self : goal.invariant_of-self
invariant_of-self c =
    let port = c.index_mut-port.result.now in
    let found = found-at c.place.ensures.first c.in-Some.is c.self.view_is
    c.index_mut-port.ensures.value in
    found.stay c.self.inside.counted c.self.inside.places c.self.invariant c.stir.new.self
    (stirs-number port c.stir.new.self (device_stir port.device (stir_of c.args.what))
    c.stir.result c.stir.ensures)

pub returns : goal.returns
returns c manifest =
    let found = found-at c.place.ensures.first c.in-Some.is c.self.view_is
    c.index_mut-port.ensures.value in
    stirs-at c.stir.new.self (stir_of c.args.what) manifest c.stir.result found
    c.stir.ensures
