-- The first are counted, and the places of the others are kept.
use Rattle.std.proofs.Common.{arith, subst}
use Rattle.gb_module.specs.Places.{AreCounted}
use Rattle.gb_module.proofs.Counting.{all-told}
use Rattle.gb_module.proofs.ports.Ports.new.Goals as goal

pub invariant_of-result : goal.invariant_of-result
invariant_of-result c =
    let over = c.loop-left-test.false in
    let most = c.loop-left.invariant.counted in
    all-told c.counted_in-counted.result c.loop-left.left c.loop-left.places c.args.ports.items
    (omega (arith, over, most))
    (subst (AreCounted c.counted_in-counted.result) c.as_slice.ensures.value
    c.counted_in-counted.ensures.numbers) c.loop-left.invariant.kept
