-- The connection with the number is closed on the side of the application processor.
use Rattle.std.proofs.Common.{ap, sym, ◌∙◌}
use Rattle.gb_bus.proofs.Grouping.{all-same, all-set}
use Rattle.gb_bus.proofs.SeeingChanges.{changes-one, closed-ends, filled}
use Rattle.gb_bus.proofs.SeeingChanges.{marked-ends, nothing-changes}
use Rattle.gb_bus.specs.Parts.{closed, numbered}
use Rattle.gb_bus.specs.Seen.{seen, seen_in_order}
use Rattle.gb_machine.specs.Lists.{at_first}
use Rattle.gb_bus.proofs.connections.Connections.shut.Goals as goal

pub invariant_of-self : goal.invariant_of-self
invariant_of-self c =
    all-same c.self.inside.live.map c.get_mut.follows.lender-at-none.map c.self.inside.ends
    c.self.inside.waiting c.get_mut.follows.holds-at-none c.self.invariant

pub returns-in_default : goal.returns-in_default
returns-in_default c =
    ap seen_in_order c.get_mut.follows.holds-at-none
    ∙ c.self.view_is
    ∙ nothing-changes c.self.inside.live.map c.args.self.now c.args.k closed
    c.self.view_is (sym c.in_default.ensures.value)

pub invariant_of-self-2 : goal.invariant_of-self-2
invariant_of-self-2 c =
    all-set c.self.inside.live.map (c.get_mut.follows.lender c.shut.new.self).map
    c.self.inside.ends c.self.inside.waiting c.args.k c.in-Some.connection.now c.shut.new.self
    (sym c.in-Some.ensures.value) (c.get_mut.follows.holds c.shut.new.self)
    (marked-ends closed closed-ends (seen 0 c.in-Some.connection.now) (seen 0 c.shut.new.self)
    c.shut.ensures) c.self.invariant

pub returns : goal.returns
returns c =
    changes-one c.self.inside.live.map (c.get_mut.follows.lender c.shut.new.self).map
    c.self.inside.ends c.self.inside.waiting c.args.k c.in-Some.connection.now c.shut.new.self
    closed c.self.invariant.maps (sym c.in-Some.ensures.value)
    (c.get_mut.follows.holds c.shut.new.self)
    (ap (filled c.args.k) c.shut.ensures)
    ∙ ap (at_first (numbered c.args.k) closed) c.self.view_is
