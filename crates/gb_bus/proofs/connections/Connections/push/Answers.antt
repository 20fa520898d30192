-- The connection with the number gets the message where it is wired.
use Rattle.std.proofs.Common.{ap, sym, ◌∙◌}
use Rattle.gb_bus.proofs.Grouping.{all-change, all-same}
use Rattle.gb_bus.proofs.SeeingChanges.{nothing-changes}
use Rattle.gb_bus.proofs.SeeingQueues.{puts}
use Rattle.gb_bus.specs.Parts.{put}
use Rattle.gb_bus.specs.Seen.{seen_in_order}
use Rattle.gb_bus.proofs.connections.Connections.push.Goals as goal

pub invariant_of-self : goal.invariant_of-self
invariant_of-self c =
    all-same c.self.inside.live.map c.get_mut.follows.lender-at-none.map c.self.inside.ends
    c.self.inside.waiting c.get_mut.follows.holds-at-none c.self.invariant

pub returns-in_default : goal.returns-in_default
returns-in_default c =
    ap seen_in_order c.get_mut.follows.holds-at-none
    ∙ c.self.view_is
    ∙ nothing-changes c.self.inside.live.map c.args.self.now c.args.k
    (put c.args.side c.args.item) c.self.view_is (sym c.in_default.ensures.value)

pub push-requires-clause-far : goal.push-requires-clause-far
push-requires-clause-far c =
    (c.self.invariant.maps.indexed c.args.k c.in-Some.connection.now
    (sym c.in-Some.ensures.value)).beyond

pub push-requires-clause-marked : goal.push-requires-clause-marked
push-requires-clause-marked c =
    c.self.invariant.maps.marked c.args.k c.in-Some.connection.now (sym c.in-Some.ensures.value)

pub invariant_of-self-in_err-push : goal.invariant_of-self-in_err-push
invariant_of-self-in_err-push c =
    all-change c.self.inside.live.map (c.get_mut.follows.lender c.push.new.self).map
    c.self.inside.ends c.self.inside.waiting c.push.new.waiting c.args.k c.in-Some.connection.now
    c.push.new.self (sym c.in-Some.ensures.value) (c.get_mut.follows.holds c.push.new.self)
    c.push.ensures.marks c.self.invariant

pub invariant_of-self-2 : goal.invariant_of-self-2
invariant_of-self-2 c =
    all-change c.self.inside.live.map (c.get_mut.follows.lender c.push.new.self).map
    c.self.inside.ends c.self.inside.waiting c.push.new.waiting c.args.k c.in-Some.connection.now
    c.push.new.self (sym c.in-Some.ensures.value) (c.get_mut.follows.holds c.push.new.self)
    c.push.ensures.marks c.self.invariant

pub returns : goal.returns
returns c =
    puts c.self.inside.live.map (c.get_mut.follows.lender c.push.new.self).map
    c.self.inside.ends c.self.inside.waiting c.args.self.now c.args.k c.in-Some.connection.now
    c.push.new.self c.args.side c.args.item c.self.invariant.maps c.self.view_is
    (sym c.in-Some.ensures.value) (c.get_mut.follows.holds c.push.new.self)
    c.in_ok-push.ensures.put
