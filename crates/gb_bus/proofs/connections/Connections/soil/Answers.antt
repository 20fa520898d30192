-- The connection with the number is unclean.
use Rattle.std.proofs.Common.{ap, sym, ◌∙◌}
use Rattle.gb_bus.proofs.Grouping.{all-same, all-set}
use Rattle.gb_bus.proofs.SeeingChanges.{changes-one, filled, marked-ends}
use Rattle.gb_bus.proofs.SeeingChanges.{nothing-changes, soiled-ends}
use Rattle.gb_bus.specs.Parts.{numbered, soiled}
use Rattle.gb_bus.specs.Seen.{seen, seen_in_order}
use Rattle.gb_machine.specs.Lists.{at_first}
use Rattle.gb_bus.proofs.connections.Connections.soil.Goals as goal

pub invariant_of-self : goal.invariant_of-self
invariant_of-self c =
    all-same c.self.inside.live.map c.get_mut.follows.lender-at-none.map c.self.inside.ends
    c.self.inside.waiting c.get_mut.follows.holds-at-none c.self.invariant

pub returns-in_default : goal.returns-in_default
returns-in_default c =
    ap seen_in_order c.get_mut.follows.holds-at-none
    ∙ c.self.view_is
    ∙ nothing-changes c.self.inside.live.map c.args.self.now c.args.k soiled
    c.self.view_is (sym c.in_default.ensures.value)

pub invariant_of-self-2 : goal.invariant_of-self-2
invariant_of-self-2 c =
    all-set c.self.inside.live.map (c.get_mut.follows.lender c.soil.new.self).map
    c.self.inside.ends c.self.inside.waiting c.args.k c.in-Some.connection.now c.soil.new.self
    (sym c.in-Some.ensures.value) (c.get_mut.follows.holds c.soil.new.self)
    (marked-ends soiled soiled-ends (seen 0 c.in-Some.connection.now) (seen 0 c.soil.new.self)
    c.soil.ensures) c.self.invariant

pub returns : goal.returns
returns c =
    changes-one c.self.inside.live.map (c.get_mut.follows.lender c.soil.new.self).map
    c.self.inside.ends c.self.inside.waiting c.args.k c.in-Some.connection.now c.soil.new.self
    soiled c.self.invariant.maps (sym c.in-Some.ensures.value)
    (c.get_mut.follows.holds c.soil.new.self)
    (ap (filled c.args.k) c.soil.ensures)
    ∙ ap (at_first (numbered c.args.k) soiled) c.self.view_is
