-- The request is made on the connection with the number, and waits where that is wired.
use Rattle.std.proofs.Common.{Err, None, Some, ◌≡◌, ap, is_some, subst, sym, ◌∙◌}
use Rattle.std.proofs.lemmas.Result.{err_from_is_err_and}
use Rattle.gb_bus.proofs.Asking.{asks-lost, asks-not, asks-waits, made}
use Rattle.gb_bus.proofs.Entries.{set-again}
use Rattle.gb_bus.proofs.Grouping.{all-change, all-same, all-set}
use Rattle.gb_bus.specs.Ends.{is_far}
use Rattle.gb_bus.specs.Parts.{put}
use Rattle.gb_bus.specs.declared.queue.Item.TheVariants as item
use Rattle.gb_bus.proofs.Keeping.{marks-after, same-marks}
use Rattle.gb_bus.proofs.SeeingChanges.{finds}
use Rattle.gb_bus.specs.Seen.{seen, seen_in_order}
use Rattle.gb_bus.specs.Sides.{AsksIn}
use Rattle.gb_bus.proofs.connections.Connections.ask.Goals as goal

pub invariant_of-self : goal.invariant_of-self
invariant_of-self c =
    all-same c.self.inside.live.map c.get_mut.follows.lender-at-none.map c.self.inside.ends
    c.self.inside.waiting c.get_mut.follows.holds-at-none c.self.invariant

pub returns-in_default : goal.returns-in_default
returns-in_default c = (
  finds c.self.inside.live.map c.args.self.now c.args.k None c.self.view_is
      (sym c.in_default.ensures.value),
  ap seen_in_order c.get_mut.follows.holds-at-none ∙ c.self.view_is,
)

pub invariant_of-self-in_err-label : goal.invariant_of-self-in_err-label
invariant_of-self-in_err-label c =
    all-set c.self.inside.live.map (c.get_mut.follows.lender c.label_for.new.self).map
    c.self.inside.ends c.self.inside.waiting c.args.k c.in-Some.connection.now c.label_for.new.self
    (sym c.in-Some.ensures.value) (c.get_mut.follows.holds c.label_for.new.self)
    c.label_for.ensures.ends c.self.invariant

pub returns-in_err-label : goal.returns-in_err-label
returns-in_err-label c =
    let p = err_from_is_err_and c.from_residual.result c.from_residual.ensures.1 in
    subst
    (AsksIn c.args.self.now
    (seen_in_order (c.get_mut.follows.lender c.label_for.new.self).map.entries) c.args.k
    c.args.draft.now.side c.args.draft.now.number c.args.draft.now.kind c.args.draft.now.payload.now
    c.args.draft.now.deadline c.args.draft.now.oneway) (sym (p.1 ∙ ap Err p.2))
    (asks-not c.self.inside.live.map (c.get_mut.follows.lender c.label_for.new.self).map
    c.self.inside.ends c.self.inside.waiting c.args.self.now c.args.k c.args.draft.now.side
    c.args.draft.now.number c.args.draft.now.kind c.args.draft.now.payload.now
    c.args.draft.now.deadline c.args.draft.now.oneway c.in_err-label.field-0.0
    c.in-Some.connection.now c.label_for.new.self c.self.invariant.maps c.self.view_is
    (sym c.in-Some.ensures.value) (c.get_mut.follows.holds c.label_for.new.self)
    c.in_err-label.ensures.labels)

pub invariant_of-self-then-not-connection : goal.invariant_of-self-then-not-connection
invariant_of-self-then-not-connection c =
    all-set c.self.inside.live.map (c.get_mut.follows.lender c.label_for.new.self).map
    c.self.inside.ends c.self.inside.waiting c.args.k c.in-Some.connection.now c.label_for.new.self
    (sym c.in-Some.ensures.value) (c.get_mut.follows.holds c.label_for.new.self)
    c.label_for.ensures.ends c.self.invariant

pub returns-then-not-connection : goal.returns-then-not-connection
returns-then-not-connection c =
    asks-lost c.self.inside.live.map (c.get_mut.follows.lender c.label_for.new.self).map
    c.self.inside.ends c.self.inside.waiting c.args.self.now c.args.k c.args.draft.now.side
    c.args.draft.now.number c.args.draft.now.kind c.args.draft.now.payload.now
    c.args.draft.now.deadline c.args.draft.now.oneway c.in_ok-label.label
    c.in-Some.connection.now c.label_for.new.self
    (made c.self.inside.live.map (c.get_mut.follows.lender c.label_for.new.self).map
    c.self.inside.ends c.self.inside.waiting c.args.k c.args.draft.now.side
    c.args.draft.now.number c.args.draft.now.deadline c.args.draft.now.oneway
    c.in_ok-label.label c.in-Some.connection.now c.label_for.new.self c.self.invariant.maps
    (sym c.in-Some.ensures.value) (c.get_mut.follows.holds c.label_for.new.self)
    c.in_ok-label.ensures.labels c.label_for.ensures.ends)
    c.self.view_is c.if-not-connection.true

pub invariant_of-self-in_err-item : goal.invariant_of-self-in_err-item
invariant_of-self-in_err-item c =
    all-set c.self.inside.live.map (c.get_mut.follows.lender c.label_for.new.self).map
    c.self.inside.ends c.self.inside.waiting c.args.k c.in-Some.connection.now c.label_for.new.self
    (sym c.in-Some.ensures.value) (c.get_mut.follows.holds c.label_for.new.self)
    c.label_for.ensures.ends c.self.invariant

pub returns-in_err-item : goal.returns-in_err-item
returns-in_err-item c =
    let p = err_from_is_err_and c.from_residual-in_err-item.result
    c.from_residual-in_err-item.ensures.1 in
    subst
    (AsksIn c.args.self.now
    (seen_in_order (c.get_mut.follows.lender c.label_for.new.self).map.entries) c.args.k
    c.args.draft.now.side c.args.draft.now.number c.args.draft.now.kind c.args.draft.now.payload.now
    c.args.draft.now.deadline c.args.draft.now.oneway) (sym (p.1 ∙ ap Err p.2))
    (ap is_some
    (finds c.self.inside.live.map c.args.self.now c.args.k
    (Some c.in-Some.connection.now) c.self.view_is (sym c.in-Some.ensures.value)))

pub push-requires-clause-far : goal.push-requires-clause-far
push-requires-clause-far c =
    ap is_far c.label_for.ensures.ends.far
    ∙ (c.self.invariant.maps.indexed c.args.k c.in-Some.connection.now
    (sym c.in-Some.ensures.value)).beyond

pub push-requires-clause-marked : goal.push-requires-clause-marked
push-requires-clause-marked c =
    (same-marks c.self.inside.waiting c.in-Some.connection.now c.label_for.new.self
    c.label_for.ensures.ends
    (c.self.invariant.maps.marked c.args.k c.in-Some.connection.now
    (sym c.in-Some.ensures.value))).own

pub invariant_of-self-in_err-push : goal.invariant_of-self-in_err-push
invariant_of-self-in_err-push c =
    all-change c.self.inside.live.map (c.get_mut.follows.lender c.push.new.self).map
    c.self.inside.ends c.self.inside.waiting c.push.new.waiting c.args.k c.in-Some.connection.now
    c.push.new.self (sym c.in-Some.ensures.value) (c.get_mut.follows.holds c.push.new.self)
    (marks-after c.self.inside.waiting c.push.new.waiting c.in-Some.connection.now
    c.label_for.new.self c.push.new.self c.label_for.ensures.ends c.push.ensures.marks)
    c.self.invariant

pub returns-in_err-push : goal.returns-in_err-push
returns-in_err-push c =
    let p = err_from_is_err_and c.from_residual-in_err-push.result
    c.from_residual-in_err-push.ensures.1 in
    subst
    (AsksIn c.args.self.now
    (seen_in_order (c.get_mut.follows.lender c.push.new.self).map.entries) c.args.k
    c.args.draft.now.side c.args.draft.now.number c.args.draft.now.kind c.args.draft.now.payload.now
    c.args.draft.now.deadline c.args.draft.now.oneway) (sym (p.1 ∙ ap Err p.2))
    (ap is_some
    (finds c.self.inside.live.map c.args.self.now c.args.k
    (Some c.in-Some.connection.now) c.self.view_is (sym c.in-Some.ensures.value)))

pub invariant_of-self-2 : goal.invariant_of-self-2
invariant_of-self-2 c =
    all-change c.self.inside.live.map (c.get_mut.follows.lender c.push.new.self).map
    c.self.inside.ends c.self.inside.waiting c.push.new.waiting c.args.k c.in-Some.connection.now
    c.push.new.self (sym c.in-Some.ensures.value) (c.get_mut.follows.holds c.push.new.self)
    (marks-after c.self.inside.waiting c.push.new.waiting c.in-Some.connection.now
    c.label_for.new.self c.push.new.self c.label_for.ensures.ends c.push.ensures.marks)
    c.self.invariant

pub returns : goal.returns
returns c =
    asks-waits c.self.inside.live.map (c.get_mut.follows.lender c.push.new.self).map
    (c.get_mut.follows.lender c.label_for.new.self).map
    c.self.inside.ends c.self.inside.waiting c.args.self.now c.args.k c.args.draft.now.side
    c.args.draft.now.number c.args.draft.now.kind c.args.draft.now.payload.now
    c.args.draft.now.deadline c.args.draft.now.oneway c.in_ok-label.label
    c.in-Some.connection.now c.label_for.new.self c.push.new.self
    (made c.self.inside.live.map (c.get_mut.follows.lender c.label_for.new.self).map
    c.self.inside.ends c.self.inside.waiting c.args.k c.args.draft.now.side
    c.args.draft.now.number c.args.draft.now.deadline c.args.draft.now.oneway
    c.in_ok-label.label c.in-Some.connection.now c.label_for.new.self c.self.invariant.maps
    (sym c.in-Some.ensures.value) (c.get_mut.follows.holds c.label_for.new.self)
    c.in_ok-label.ensures.labels c.label_for.ensures.ends)
    c.self.view_is c.if-not-connection.false
    (set-again c.args.k c.self.inside.live.map.entries c.label_for.new.self c.push.new.self _ _
    (c.get_mut.follows.holds c.label_for.new.self) (c.get_mut.follows.holds c.push.new.self))
    (subst (λ s. seen 0 c.push.new.self ≡ put s
    (item.Ask c.args.draft.now.number c.in_ok-label.label c.args.draft.now.kind
    c.args.draft.now.payload.now) (seen 0 c.label_for.new.self)) c.other_side.ensures
    (subst (λ i. seen 0 c.push.new.self ≡ put c.other_side.result i (seen 0 c.label_for.new.self))
    c.in_ok-item.ensures c.in_ok-push.ensures.put))
