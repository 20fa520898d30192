-- The connection with the number is wired.
use Rattle.std.proofs.Common.{ap, sym, ◌∙◌}
use Rattle.gb_bus.proofs.Grouping.{all-change, all-same}
use Rattle.gb_bus.proofs.Keeping.{wired-marks}
use Rattle.gb_bus.proofs.SeeingChanges.{changes-one, filled, nothing-changes}
use Rattle.gb_bus.specs.Parts.{numbered, with_wire}
use Rattle.gb_bus.specs.Seen.{seen_in_order}
use Rattle.gb_machine.specs.Lists.{at_first}
use Rattle.gb_bus.proofs.connections.Connections.wire.Goals as goal

pub invariant_of-self : goal.invariant_of-self
invariant_of-self c =
    all-same c.self.inside.live.map c.get_mut.follows.lender-at-none.map c.self.inside.ends
    c.self.inside.waiting c.get_mut.follows.holds-at-none c.self.invariant

pub returns-in_default : goal.returns-in_default
returns-in_default c =
    ap seen_in_order c.get_mut.follows.holds-at-none
    ∙ c.self.view_is
    ∙ nothing-changes c.self.inside.live.map c.args.self.now c.args.k with_wire
    c.self.view_is (sym c.in_default.ensures.value)

pub invariant_of-self-2 : goal.invariant_of-self-2
invariant_of-self-2 c =
    all-change c.self.inside.live.map (c.get_mut.follows.lender c.wire.new.self).map
    c.self.inside.ends c.self.inside.waiting c.self.inside.waiting c.args.k
    c.in-Some.connection.now c.wire.new.self (sym c.in-Some.ensures.value)
    (c.get_mut.follows.holds c.wire.new.self)
    (wired-marks c.self.inside.waiting c.in-Some.connection.now c.wire.new.self c.wire.ensures
    (c.self.invariant.maps.marked c.args.k c.in-Some.connection.now (sym c.in-Some.ensures.value)))
    c.self.invariant

pub returns : goal.returns
returns c =
    changes-one c.self.inside.live.map (c.get_mut.follows.lender c.wire.new.self).map
    c.self.inside.ends c.self.inside.waiting c.args.k c.in-Some.connection.now c.wire.new.self
    with_wire c.self.invariant.maps (sym c.in-Some.ensures.value)
    (c.get_mut.follows.holds c.wire.new.self) (ap (filled c.args.k) c.wire.ensures)
    ∙ ap (at_first (numbered c.args.k) with_wire) c.self.view_is
