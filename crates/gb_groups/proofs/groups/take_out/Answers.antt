-- The search says where the number is, if it is there.
use Rattle.std.proofs.Common.{Err, Ok, nat_cmp, subst, sym, ◌∙◌}
use Rattle.std.specs.List.Sorted.{IsBinarySearchResult}
use Rattle.gb_groups.proofs.Rising.{found-at, left-all, left-at, parted-at, parts-not}
use Rattle.gb_groups.proofs.groups.take_out.Goals as goal

pub returns-in_default : goal.returns-in_default
returns-in_default c =
    let parts = parted-at c.args.list.now.items c.in_default.field-0 c.args.number c.requires
    (subst
    (λ ns. IsBinarySearchResult (λ m. nat_cmp m c.args.number) ns (Err c.in_default.field-0))
    c.deref.ensures.value c.in_default.ensures.position) in
    sym (left-all c.args.list.now.items c.args.number
    (parts-not c.args.list.now.items c.in_default.field-0 c.args.number parts))

pub returns : goal.returns
returns c =
    let at = found-at c.args.list.now.items c.in-Ok.place c.args.number c.requires
    (subst (λ ns. IsBinarySearchResult (λ m. nat_cmp m c.args.number) ns (Ok c.in-Ok.place))
    c.deref.ensures.value c.in-Ok.ensures.position) in
    c.remove.ensures.items
    ∙ sym (left-at c.args.list.now.items c.in-Ok.place c.args.number c.requires at.within at.is)
