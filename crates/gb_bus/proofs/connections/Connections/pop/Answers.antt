-- The connection with the number loses its front message.
use Rattle.std.proofs.Common.{ap, subst, sym, ◌∙◌}
use Rattle.gb_bus.proofs.Grouping.{all-change, all-same}
use Rattle.gb_bus.proofs.SeeingQueues.{takes, takes-nowhere}
use Rattle.gb_bus.specs.Parts.{TakesFrontAs}
use Rattle.gb_bus.specs.Seen.{seen_in_order}
use Rattle.gb_bus.proofs.connections.Connections.pop.Goals as goal

pub invariant_of-self : goal.invariant_of-self
invariant_of-self c =
    all-same c.self.inside.live.map c.get_mut.follows.lender-at-none.map c.self.inside.ends
    c.self.inside.waiting c.get_mut.follows.holds-at-none c.self.invariant

pub returns-in_err-connection : goal.returns-in_err-connection
returns-in_err-connection c =
    subst
    (TakesFrontAs c.args.self.now (seen_in_order c.get_mut.follows.lender-at-none.map.entries)
    c.args.k c.args.side) (sym c.from_residual.ensures)
    (takes-nowhere c.self.inside.live.map c.args.self.now c.args.k c.args.side c.self.view_is
    (sym c.in_err-connection.ensures.value)
    (ap seen_in_order c.get_mut.follows.holds-at-none ∙ c.self.view_is))

pub pop-requires-clause-far : goal.pop-requires-clause-far
pop-requires-clause-far c =
    (c.self.invariant.maps.indexed c.args.k c.in_ok-connection.connection.now
    (sym c.in_ok-connection.ensures.value)).beyond

pub pop-requires-clause-marked : goal.pop-requires-clause-marked
pop-requires-clause-marked c =
    c.self.invariant.maps.marked c.args.k c.in_ok-connection.connection.now
    (sym c.in_ok-connection.ensures.value)

pub invariant_of-self-2 : goal.invariant_of-self-2
invariant_of-self-2 c =
    all-change c.self.inside.live.map (c.get_mut.follows.lender c.pop.new.self).map
    c.self.inside.ends c.self.inside.waiting c.pop.new.waiting c.args.k
    c.in_ok-connection.connection.now c.pop.new.self (sym c.in_ok-connection.ensures.value)
    (c.get_mut.follows.holds c.pop.new.self) c.pop.ensures.marks c.self.invariant

pub returns : goal.returns
returns c =
    takes c.self.inside.live.map (c.get_mut.follows.lender c.pop.new.self).map
    c.self.inside.ends c.self.inside.waiting c.args.self.now c.args.k
    c.in_ok-connection.connection.now c.pop.new.self c.args.side c.pop.result c.self.invariant.maps
    c.self.view_is (sym c.in_ok-connection.ensures.value) (c.get_mut.follows.holds c.pop.new.self)
    c.pop.ensures.taken
