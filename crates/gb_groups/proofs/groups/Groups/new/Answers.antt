-- All lists are there, and have no number.
use Rattle.std.proofs.Common.{arith}
use Rattle.gb_groups.proofs.Places.{none-rise}
use Rattle.gb_groups.proofs.groups.Groups.new.Goals as goal

pub invariant_of-result : goal.invariant_of-result
invariant_of-result c =
    none-rise c.loop.lists.items
    (omega (arith, c.loop.invariant.many, c.loop-test.false, c.loop.auto.counter-end))
    c.loop.invariant.none
