-- The list of a group is without the number, and still rises.
use Rattle.std.proofs.Common.{ap, arith, nat_cmp, subst, sym, ◌∙◌}
use Rattle.std.specs.List.Sorted.{IsStrictlySortedBy}
use Rattle.gb_groups.proofs.Places.{found-is, found-rises, place-of, regroups, still-rising}
use Rattle.gb_groups.proofs.groups.Groups.remove.Goals as goal
use Rattle.gb_groups.proofs.Rising.{left-rises}
use Rattle.gb_groups.specs.Groups.{left_out, numbers_in}

pub take_out-requires : goal.take_out-requires
take_out-requires c =
    let p = place-of c.self.inside.lists.items c.self.view_is c.self.invariant
    (omega (arith, c.from.ensures, c.ranges.group.fits)) in
    found-rises p c.index_mut.result.now c.index_mut.ensures.value

pub invariant_of-self : goal.invariant_of-self
invariant_of-self c =
    let p = place-of c.self.inside.lists.items c.self.view_is c.self.invariant
    (omega (arith, c.from.ensures, c.ranges.group.fits)) in
    still-rising p c.take_out.new.list (subst (IsStrictlySortedBy nat_cmp) (sym c.take_out.ensures)
    (left-rises c.index_mut.result.now.items _
    (found-rises p c.index_mut.result.now c.index_mut.ensures.value)))

pub returns : goal.returns
returns c =
    let p = place-of c.self.inside.lists.items c.self.view_is c.self.invariant
    (omega (arith, c.from.ensures, c.ranges.group.fits)) in
    regroups p c.take_out.new.list
    (left_out c.args.number (numbers_in c.args.self.now c.args.group)) c.args.group
    c.from.ensures
    (c.take_out.ensures
    ∙ ap (left_out c.args.number)
    (found-is p c.index_mut.result.now c.index_mut.ensures.value
    ∙ ap (numbers_in c.args.self.now) c.from.ensures))
