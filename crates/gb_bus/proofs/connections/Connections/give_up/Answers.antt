-- The request is given up on the connection with the number.
use Rattle.std.proofs.Common.{None, ap, inl, inr, sym, ◌∙◌}
use Rattle.gb_bus.proofs.Grouping.{all-same, all-set}
use Rattle.gb_bus.proofs.SeeingChanges.{finds}
use Rattle.gb_bus.proofs.SeeingSides.{side-changes, side-ends}
use Rattle.gb_bus.specs.Seen.{seen, seen_in_order}
use Rattle.gb_bus.specs.Sides.{GivesUpWhere}
use Rattle.gb_bus.proofs.connections.Connections.give_up.Goals as goal

pub invariant_of-self : goal.invariant_of-self
invariant_of-self c =
    all-same c.self.inside.live.map c.get_mut.follows.lender-at-none.map c.self.inside.ends
    c.self.inside.waiting c.get_mut.follows.holds-at-none c.self.invariant

pub returns-in_default : goal.returns-in_default
returns-in_default c =
    inr (
      finds c.self.inside.live.map c.args.self.now c.args.k None c.self.view_is
          (sym c.in_default.ensures.value),
      ap seen_in_order c.get_mut.follows.holds-at-none ∙ c.self.view_is,
    )

pub invariant_of-self-2 : goal.invariant_of-self-2
invariant_of-self-2 c =
    all-set c.self.inside.live.map (c.get_mut.follows.lender c.give_up.new.self).map
    c.self.inside.ends c.self.inside.waiting c.args.k c.in-Some.connection.now c.give_up.new.self
    (sym c.in-Some.ensures.value) (c.get_mut.follows.holds c.give_up.new.self)
    (side-ends c.args.side (λ v w. GivesUpWhere v w c.args.n) (seen 0 c.in-Some.connection.now)
    (seen 0 c.give_up.new.self) c.give_up.ensures) c.self.invariant

pub returns : goal.returns
returns c =
    inl
    (side-changes c.self.inside.live.map (c.get_mut.follows.lender c.give_up.new.self).map
    c.self.inside.ends c.self.inside.waiting c.args.self.now c.args.k c.args.side
    c.in-Some.connection.now c.give_up.new.self (λ v w. GivesUpWhere v w c.args.n)
    c.self.invariant.maps
    c.self.view_is (sym c.in-Some.ensures.value) (c.get_mut.follows.holds c.give_up.new.self)
    c.give_up.ensures)
