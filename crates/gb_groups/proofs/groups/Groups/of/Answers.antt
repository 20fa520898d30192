-- The list of a group rises.
use Rattle.std.proofs.Common.{arith, nat_cmp, subst, sym}
use Rattle.std.specs.List.Sorted.{IsStrictlySortedBy}
use Rattle.gb_groups.proofs.Places.{found-rises, place-of}
use Rattle.gb_groups.proofs.groups.Groups.of.Goals as goal

pub returns-clause-rising : goal.returns-clause-rising
returns-clause-rising c =
    let p = place-of c.self.inside.lists.items c.self.view_is c.self.invariant
    (omega (arith, c.from.ensures, c.ranges.group.fits)) in
    subst (IsStrictlySortedBy nat_cmp) (sym c.as_slice.ensures.value)
    (found-rises p c.index.result.now c.index.ensures)
