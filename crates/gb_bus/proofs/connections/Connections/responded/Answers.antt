-- The response is matched on the connection with the number.
use Rattle.std.proofs.Common.{ap, sym, ◌∙◌}
use Rattle.gb_bus.proofs.Grouping.{all-same, all-set}
use Rattle.gb_bus.proofs.SeeingSides.{responds, responds-none, side-ends}
use Rattle.gb_bus.specs.Seen.{seen, seen_in_order}
use Rattle.gb_bus.specs.Sides.{MatchesAs, asked_of}
use Rattle.gb_bus.proofs.connections.Connections.responded.Goals as goal

pub invariant_of-self : goal.invariant_of-self
invariant_of-self c =
    all-same c.self.inside.live.map c.get_mut.follows.lender-at-none.map c.self.inside.ends
    c.self.inside.waiting c.get_mut.follows.holds-at-none c.self.invariant

pub returns-in_default : goal.returns-in_default
returns-in_default c =
    responds-none c.self.inside.live.map c.args.self.now c.args.k c.args.side
    c.args.number c.args.label c.self.view_is (sym c.in_default.ensures.value)
    (ap seen_in_order c.get_mut.follows.holds-at-none ∙ c.self.view_is)

pub invariant_of-self-2 : goal.invariant_of-self-2
invariant_of-self-2 c =
    all-set c.self.inside.live.map (c.get_mut.follows.lender c.responded.new.self).map
    c.self.inside.ends c.self.inside.waiting c.args.k c.in-Some.connection.now c.responded.new.self
    (sym c.in-Some.ensures.value) (c.get_mut.follows.holds c.responded.new.self)
    (side-ends c.args.side
    (λ v w. MatchesAs v w (asked_of c.responded.result.0 c.args.number) c.args.label
    c.responded.result.1) (seen 0 c.in-Some.connection.now) (seen 0 c.responded.new.self)
    c.responded.ensures.1) c.self.invariant

pub returns : goal.returns
returns c =
    responds c.self.inside.live.map (c.get_mut.follows.lender c.responded.new.self).map
    c.self.inside.ends c.self.inside.waiting c.args.self.now c.args.k c.args.side c.args.number
    c.args.label c.responded.result c.in-Some.connection.now c.responded.new.self
    c.self.invariant.maps
    c.self.view_is (sym c.in-Some.ensures.value) (c.get_mut.follows.holds c.responded.new.self)
    c.responded.ensures
