-- The names that the map has, inserted one by one, are in their order.
use Rattle.std.proofs.Common.{[], ◌≡◌, ap, ◌∙◌}
use Rattle.gb_system.proofs.HashedNames.{inserted, inserted-sorted}
use Rattle.gb_system.proofs.names.Names.in_order.Goals as goal

pub loop-name-init : goal.loop-name-init
loop-name-init c =
    let start : c.into_iter-name-iterator.result ≡ c.self.inside.bound.entries =
    c.into_iter-name-iterator.ensures.into_iter_gives.0 in (
      tt,
      tt,
      ap (λ names. inserted names c.into_iter-name-iterator.result) c.new-names.ensures.empty
          ∙ ap (inserted []) start
          ∙ inserted-sorted c.self.inside.bound.entries c.self.invariant
          ∙ c.self.view_is,
    )
