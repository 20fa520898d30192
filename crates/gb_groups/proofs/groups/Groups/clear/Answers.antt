-- A list of no numbers rises.
use Rattle.std.proofs.Common.{[], arith, nat_cmp, subst, sym}
use Rattle.std.specs.List.Sorted.{IsStrictlySortedBy}
use Rattle.gb_groups.proofs.Places.{place-of, regroups, still-rising}
use Rattle.gb_groups.proofs.groups.Groups.clear.Goals as goal

pub invariant_of-self : goal.invariant_of-self
unfolding IsStrictlySortedBy
invariant_of-self c =
    let p = place-of c.self.inside.lists.items c.self.view_is c.self.invariant
    (omega (arith, c.from.ensures, c.ranges.group.fits)) in
    still-rising p c.clear.new.self
    (subst (IsStrictlySortedBy nat_cmp) (sym c.clear.ensures.items) tt)

pub returns : goal.returns
returns c =
    let p = place-of c.self.inside.lists.items c.self.view_is c.self.invariant
    (omega (arith, c.from.ensures, c.ranges.group.fits)) in
    regroups p c.clear.new.self [] c.args.group c.from.ensures c.clear.ensures.items
