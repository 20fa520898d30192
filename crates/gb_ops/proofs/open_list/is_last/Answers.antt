-- The last number is the greatest.
use Rattle.std.proofs.Common.{arith, refl}
use Rattle.gb_ops.proofs.Placed.{below-last}
use Rattle.gb_ops.proofs.open_list.is_last.Goals as goal

pub returns-in-Some : goal.returns-in-Some
returns-in-Some c = λ low.
    let some = c.in-Some.ensures.variant.0 refl in
    below-last c.args.places.now.items _ c.args.n c.in-Some.last.now c.requires
    (omega (arith, some, c.args.places.now.ok)) c.in-Some.ensures.lookup low
