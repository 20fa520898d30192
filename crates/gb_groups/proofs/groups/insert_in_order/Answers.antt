-- A number goes to the end, or to where the search says, or is there.
use Rattle.std.proofs.Common.{◌<◌, All, Err, Ok, nat_cmp, subst, sym, ◌∙◌}
use Rattle.std.specs.List.Sorted.{IsBinarySearchResult}
use Rattle.gb_groups.proofs.Rising.{found-at, inserted-at, inserted-last, inserted-there}
use Rattle.gb_groups.proofs.Rising.{parted-at, parts-lacks}
use Rattle.gb_groups.proofs.groups.insert_in_order.Goals as goal

pub returns-then-is_greater-clause-added : goal.returns-then-is_greater-clause-added
returns-then-is_greater-clause-added c =
    c.in_ok-push.ensures.items
    ∙ sym (inserted-last c.args.list.now.items c.args.number
    (subst (All (λ m. m < c.args.number)) c.as_slice.ensures.value
    (c.is_greater.ensures c.if-is_greater.true)))

pub returns-in_default-clause-added : goal.returns-in_default-clause-added
returns-in_default-clause-added c =
    let at = found-at c.args.list.now.items c.in_default.field-0 c.args.number c.requires
    (subst
    (λ ns. IsBinarySearchResult (λ m. nat_cmp m c.args.number) ns (Ok c.in_default.field-0))
    c.deref.ensures.value c.in_default.ensures.position) in
    sym (inserted-there c.args.list.now.items c.in_default.field-0 c.args.number c.requires
    at.within at.is)

pub returns-in_err-insert-clause-there : goal.returns-in_err-insert-clause-there
returns-in_err-insert-clause-there c = λ has.
    let parts = parted-at c.args.list.now.items c.in-Err.place c.args.number c.requires
    (subst (λ ns. IsBinarySearchResult (λ m. nat_cmp m c.args.number) ns (Err c.in-Err.place))
    c.deref.ensures.value c.in-Err.ensures.position) in
    absurd (parts-lacks c.args.list.now.items c.in-Err.place c.args.number parts has)

pub returns-clause-added : goal.returns-clause-added
returns-clause-added c =
    let parts = parted-at c.args.list.now.items c.in-Err.place c.args.number c.requires
    (subst (λ ns. IsBinarySearchResult (λ m. nat_cmp m c.args.number) ns (Err c.in-Err.place))
    c.deref.ensures.value c.in-Err.ensures.position) in
    c.in_ok-insert.ensures.items
    ∙ sym (inserted-at c.args.list.now.items c.in-Err.place c.args.number parts.within
    parts.below parts.above)
