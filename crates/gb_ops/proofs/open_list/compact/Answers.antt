-- Those that are kept are those that aren't empty.
use Rattle.std.proofs.Common.{◌≡◌, ap, rules, subst, sym, ◌∙◌}
use Rattle.std.proofs.lemmas.Fn.{filter_same}
use Rattle.std.specs.List.{filter}
use Rattle.gb_ops.proofs.Placed.{opened-filter, order-filter}
use Rattle.gb_ops.specs.Places.{IsInOrder, is_open, opened}
use Rattle.gb_ops.proofs.open_list.compact.Goals as goal

pub returns-clause-order : goal.returns-clause-order
returns-clause-order c =
    let kept : c.retain.new.self.items ≡ filter is_open c.args.places.now.items =
    filter_same _ is_open _ (λ x b f' k. search rules) _ _ c.retain.ensures.filtered in
    subst IsInOrder (sym kept) (order-filter c.args.places.now.items c.requires)

pub returns-clause-same : goal.returns-clause-same
returns-clause-same c =
    let kept : c.retain.new.self.items ≡ filter is_open c.args.places.now.items =
    filter_same _ is_open _ (λ x b f' k. search rules) _ _ c.retain.ensures.filtered in
    ap opened kept ∙ opened-filter c.args.places.now.items
