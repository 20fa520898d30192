-- What is left behind the reference is the connection with the number.
use Rattle.std.proofs.Common.{ap, refl, sym, ◌∙◌}
use Rattle.std.specs.Option.{ghost_name_of, option_copied_mut}
use Rattle.gb_bus.proofs.LivePlaces.{changes-at, set-none, value-is}
use Rattle.gb_bus.proofs.numbered.Numbered.get_mut.Goals as goal

pub returns-in_err-place : goal.returns-in_err-place
returns-in_err-place c = (
  (
    ap ghost_name_of (sym c.from_residual.ensures),
    λ y. set-none c.args.k y c.args.self.now.map.entries c.in_err-place.ensures,
    refl,
  ),
  record {
    changes = tt;
    value = ap option_copied_mut c.from_residual.ensures ∙ sym c.in_err-place.ensures;
  },
)

pub returns : goal.returns
returns c =
    let s = c.in_ok-place.ensures in (
      (
        refl,
        changes-at c.args.self.now.map c.args.k c.in_ok-place.place s
            c.get_index_mut.ensures.unique,
        refl,
      ),
      record {
        changes = tt;
        value = c.get_index_mut.ensures.value
            ∙ value-is c.args.self.now.map c.args.k c.in_ok-place.place s;
      },
    )
