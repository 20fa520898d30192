-- The list of a group has the number, or is as it was, and still rises.
use Rattle.std.proofs.Common.{ap, arith, nat_cmp, subst, sym, ◌∙◌}
use Rattle.std.specs.BTreeSet.{insert_key}
use Rattle.std.specs.List.Sorted.{IsStrictlySortedBy}
use Rattle.gb_groups.proofs.Places.{found-is, found-rises, on-err, place-of}
use Rattle.gb_groups.proofs.Places.{regroups, same-numbers, still-rising}
use Rattle.gb_groups.proofs.groups.Groups.add.Goals as goal
use Rattle.gb_groups.proofs.Rising.{inserted-rises}
use Rattle.gb_groups.specs.Groups.{numbers_in}

pub insert_in_order-requires : goal.insert_in_order-requires
insert_in_order-requires c =
    let p = place-of c.self.inside.lists.items c.self.view_is c.self.invariant
    (omega (arith, c.from.ensures, c.ranges.group.fits)) in
    found-rises p c.index_mut.result.now c.index_mut.ensures.value

pub invariant_of-self : goal.invariant_of-self
invariant_of-self c =
    let p = place-of c.self.inside.lists.items c.self.view_is c.self.invariant
    (omega (arith, c.from.ensures, c.ranges.group.fits)) in
    still-rising p c.insert_in_order.new.list (subst (IsStrictlySortedBy nat_cmp)
    (sym c.in_err-insert_in_order.ensures.unchanged)
    (found-rises p c.index_mut.result.now c.index_mut.ensures.value))

pub returns-in_err-insert_in_order-clause-unchanged
    : goal.returns-in_err-insert_in_order-clause-unchanged
returns-in_err-insert_in_order-clause-unchanged c =
    let p = place-of c.self.inside.lists.items c.self.view_is c.self.invariant
    (omega (arith, c.from.ensures, c.ranges.group.fits)) in
    on-err c.from_residual.result
    (same-numbers p c.index_mut.result.now c.insert_in_order.new.list c.index_mut.ensures.value
    c.in_err-insert_in_order.ensures.unchanged)

pub invariant_of-self-2 : goal.invariant_of-self-2
invariant_of-self-2 c =
    let p = place-of c.self.inside.lists.items c.self.view_is c.self.invariant
    (omega (arith, c.from.ensures, c.ranges.group.fits)) in
    still-rising p c.insert_in_order.new.list (subst (IsStrictlySortedBy nat_cmp)
    (sym c.in_ok-insert_in_order.ensures.added)
    (inserted-rises c.index_mut.result.now.items _
    (found-rises p c.index_mut.result.now c.index_mut.ensures.value)))

pub returns-clause-added : goal.returns-clause-added
returns-clause-added c =
    let p = place-of c.self.inside.lists.items c.self.view_is c.self.invariant
    (omega (arith, c.from.ensures, c.ranges.group.fits)) in
    regroups p c.insert_in_order.new.list
    (insert_key nat_cmp (numbers_in c.args.self.now c.args.group) c.args.number) c.args.group
    c.from.ensures
    (c.in_ok-insert_in_order.ensures.added
    ∙ ap (λ ns. insert_key nat_cmp ns c.args.number)
    (found-is p c.index_mut.result.now c.index_mut.ensures.value
    ∙ ap (numbers_in c.args.self.now) c.from.ensures))
