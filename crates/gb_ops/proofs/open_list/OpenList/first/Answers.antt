-- The first place has the least number, and isn't empty.
use Rattle.std.proofs.Common.{arith, refl, subst}
use Rattle.gb_ops.proofs.Placed.{first-least}
use Rattle.gb_ops.specs.Finding.{IsLeast}
use Rattle.gb_ops.specs.Places.{pending_among}
use Rattle.gb_ops.proofs.open_list.OpenList.first.Goals as goal

pub returns : goal.returns
returns c =
    let some = c.in_ok-place.ensures.variant.0 refl in
    subst (λ es. IsLeast (pending_among es) c.in_ok-place.place.now.number) c.self.view_is
    (first-least c.self.inside.places.items c.in_ok-place.place.now c.self.invariant
    (omega (arith, some, c.self.inside.places.ok)) c.in_ok-place.ensures.lookup)
