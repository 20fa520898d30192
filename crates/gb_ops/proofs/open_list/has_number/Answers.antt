-- A place that is there has a number, and one that isn't has none.
use Rattle.std.proofs.Common.{arith, refl}
use Rattle.std.proofs.lemmas.Bool.{eq-eqb}
use Rattle.gb_ops.proofs.Placed.{number-from, place-from, place-inside, same-number}
use Rattle.gb_ops.proofs.open_list.has_number.Goals as goal

pub returns-in-Some : goal.returns-in-Some
returns-in-Some c =
    let some = c.in-Some.ensures.variant.0 refl in (
      λ e. place-from c.args.places.now.items c.args.at c.args.n c.in-Some.place.now
          (omega (arith, some, c.args.places.now.ok)) c.in-Some.ensures.lookup
          (same-number c.in-Some.place.now.number c.args.n e),
      λ is. eq-eqb c.in-Some.place.now.number c.args.n
          (number-from c.args.places.now.items c.args.at c.args.n c.in-Some.place.now
          c.in-Some.ensures.lookup is),
    )

pub returns-in-None : goal.returns-in-None
returns-in-None c = (
  λ e. absurd (cc e),
  λ is.
      let inside = place-inside c.args.places.now.items c.args.at c.args.n is in
      c.in-None.ensures.variant.1 (omega (arith, inside, c.args.places.now.ok)),
)
