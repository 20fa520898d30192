-- The connections that stay are those with another number.
use Rattle.std.proofs.Common.{sym}
use Rattle.gb_bus.proofs.Grouping.{all-removed, all-same}
use Rattle.gb_bus.proofs.SeeingLive.{removes}
use Rattle.gb_bus.proofs.connections.Connections.remove.Goals as goal

pub invariant_of-self : goal.invariant_of-self
invariant_of-self c =
    all-same c.self.inside.live.map c.swap_remove.new.self c.self.inside.ends
    c.self.inside.waiting c.in_default.ensures.unchanged c.self.invariant

pub returns-in_default : goal.returns-in_default
returns-in_default c =
    removes c.self.inside.live.map c.swap_remove.new.self c.args.self.now c.args.k
    c.self.invariant.maps.unique c.in_default.ensures.unique c.in_default.ensures.updates.0
    c.self.view_is

pub lose-requires : goal.lose-requires
lose-requires c =
    (c.self.invariant.maps.indexed c.args.k c.in-Some.connection
    (sym c.in-Some.ensures.value)).beyond

pub invariant_of-self-2 : goal.invariant_of-self-2
invariant_of-self-2 c =
    all-removed c.self.inside.live.map c.swap_remove.new.self c.self.inside.ends c.unset.new.ends
    c.self.inside.waiting c.lose.new.waiting c.self.inside.grouped c.remove.new.grouped c.args.k
    c.in-Some.connection c.lose.new.self (sym c.in-Some.ensures.value)
    c.in-Some.ensures.updates.0 c.in-Some.ensures.unique
    c.unset.ensures c.remove.ensures c.lose.ensures.lost c.lose.ensures.marks c.self.invariant

pub returns : goal.returns
returns c =
    removes c.self.inside.live.map c.swap_remove.new.self c.args.self.now c.args.k
    c.self.invariant.maps.unique c.in-Some.ensures.unique c.in-Some.ensures.updates.0 c.self.view_is
