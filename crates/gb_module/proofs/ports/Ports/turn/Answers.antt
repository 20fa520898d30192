-- The CPort with the number has its state changed, and no other changes.
use Rattle.std.proofs.Common.{refl}
use Rattle.gb_module.proofs.Standing.{found-at, none-stands}
use Rattle.gb_module.proofs.Stepping.{turns-at, turns-number}
use Rattle.gb_module.proofs.ports.Ports.turn.Goals as goal

pub returns-in_default : goal.returns-in_default
returns-in_default c manifest =
    rw (none-stands c.args.number c.args.self.now c.place.ensures.first c.in_default.is) refl

pub invariant_of-self : goal.invariant_of-self
invariant_of-self c =
    let port = c.index_mut-port.result.now in
    let found = found-at c.place.ensures.first c.in-Some.is c.self.view_is
    c.index_mut-port.ensures.value in
    found.stay c.self.inside.counted c.self.inside.places c.self.invariant c.turn.new.self
    (turns-number c.args.turn port c.turn.new.self c.turn.ensures.port)

pub returns : goal.returns
returns c manifest =
    let found = found-at c.place.ensures.first c.in-Some.is c.self.view_is
    c.index_mut-port.ensures.value in
    turns-at c.turn.new.self c.args.turn manifest c.turn.result found
    c.turn.ensures.code c.turn.ensures.port
