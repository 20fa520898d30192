-- The answer is matched on the connection with the number.
use Rattle.std.proofs.Common.{ap, sym, ◌∙◌}
use Rattle.gb_bus.proofs.Grouping.{all-same, all-set}
use Rattle.gb_bus.proofs.SeeingSides.{matches, matches-none, side-ends}
use Rattle.gb_bus.specs.Seen.{seen, seen_in_order}
use Rattle.gb_bus.specs.Sides.{MatchesAs}
use Rattle.gb_bus.proofs.connections.Connections.matched.Goals as goal

pub invariant_of-self : goal.invariant_of-self
invariant_of-self c =
    all-same c.self.inside.live.map c.get_mut.follows.lender-at-none.map c.self.inside.ends
    c.self.inside.waiting c.get_mut.follows.holds-at-none c.self.invariant

pub returns-in_default : goal.returns-in_default
returns-in_default c =
    matches-none c.self.inside.live.map c.args.self.now c.args.k c.args.side
    c.args.number c.args.label c.self.view_is (sym c.in_default.ensures.value)
    (ap seen_in_order c.get_mut.follows.holds-at-none ∙ c.self.view_is)

pub invariant_of-self-2 : goal.invariant_of-self-2
invariant_of-self-2 c =
    all-set c.self.inside.live.map (c.get_mut.follows.lender c.matched.new.self).map
    c.self.inside.ends c.self.inside.waiting c.args.k c.in-Some.connection.now c.matched.new.self
    (sym c.in-Some.ensures.value) (c.get_mut.follows.holds c.matched.new.self)
    (side-ends c.args.side (λ v w. MatchesAs v w c.args.number c.args.label c.matched.result)
    (seen 0 c.in-Some.connection.now) (seen 0 c.matched.new.self) c.matched.ensures)
    c.self.invariant

pub returns : goal.returns
returns c =
    matches c.self.inside.live.map (c.get_mut.follows.lender c.matched.new.self).map
    c.self.inside.ends c.self.inside.waiting c.args.self.now c.args.k c.args.side c.args.number
    c.args.label c.matched.result c.in-Some.connection.now c.matched.new.self c.self.invariant.maps
    c.self.view_is (sym c.in-Some.ensures.value) (c.get_mut.follows.holds c.matched.new.self)
    c.matched.ensures
