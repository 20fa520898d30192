-- The connection with the number is cleared.
use Rattle.std.proofs.Common.{ap, sym, ◌∙◌}
use Rattle.gb_bus.proofs.Grouping.{all-change, all-same}
use Rattle.gb_bus.proofs.SeeingChanges.{changes-one, filled, nothing-changes}
use Rattle.gb_bus.specs.Parts.{cleared, numbered}
use Rattle.gb_bus.specs.Seen.{seen_in_order}
use Rattle.gb_machine.specs.Lists.{at_first}
use Rattle.gb_bus.proofs.connections.Connections.unwire.Goals as goal

pub invariant_of-self : goal.invariant_of-self
invariant_of-self c =
    all-same c.self.inside.live.map c.get_mut.follows.lender-at-none.map c.self.inside.ends
    c.self.inside.waiting c.get_mut.follows.holds-at-none c.self.invariant

pub returns-in_default : goal.returns-in_default
returns-in_default c =
    ap seen_in_order c.get_mut.follows.holds-at-none
    ∙ c.self.view_is
    ∙ nothing-changes c.self.inside.live.map c.args.self.now c.args.k cleared
    c.self.view_is (sym c.in_default.ensures.value)

pub clear-requires : goal.clear-requires
clear-requires c =
    (c.self.invariant.maps.indexed c.args.k c.in-Some.connection.now
    (sym c.in-Some.ensures.value)).beyond

pub invariant_of-self-2 : goal.invariant_of-self-2
invariant_of-self-2 c =
    all-change c.self.inside.live.map (c.get_mut.follows.lender c.clear.new.self).map
    c.self.inside.ends c.self.inside.waiting c.clear.new.waiting c.args.k
    c.in-Some.connection.now c.clear.new.self (sym c.in-Some.ensures.value)
    (c.get_mut.follows.holds c.clear.new.self) c.clear.ensures.marks c.self.invariant

pub returns : goal.returns
returns c =
    changes-one c.self.inside.live.map (c.get_mut.follows.lender c.clear.new.self).map
    c.self.inside.ends c.self.inside.waiting c.args.k c.in-Some.connection.now c.clear.new.self
    cleared c.self.invariant.maps (sym c.in-Some.ensures.value)
    (c.get_mut.follows.holds c.clear.new.self) (ap (filled c.args.k) c.clear.ensures.cleared)
    ∙ ap (at_first (numbered c.args.k) cleared) c.self.view_is
