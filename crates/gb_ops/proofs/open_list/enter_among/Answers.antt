-- The place of the number is filled anew, or one is made between those of the others.
use Rattle.std.proofs.Common.{ap, arith, is_some, subst, sym, ◌∙◌, Some}
use Rattle.gb_table.specs.Table.{Puts}
use Rattle.gb_ops.proofs.Placed.{absent, enters-among, order-set, place-inside, puts-set, seen-at}
use Rattle.gb_ops.specs.Places.{IsInOrder, opened, pending_among}
use Rattle.gb_ops.proofs.open_list.enter_among.Goals as goal

pub index_mut-requires : goal.index_mut-requires
index_mut-requires c =
    let inside = place-inside c.args.places.now.items c.in-Some.at c.args.n c.in-Some.ensures in
    omega (arith, inside, c.args.places.now.ok)

pub returns-in-Some-clause-order : goal.returns-in-Some-clause-order
returns-in-Some-clause-order c =
    order-set c.args.places.now.items c.in-Some.at c.args.n c.args.request c.requires
    c.in-Some.ensures

pub returns-in-Some-clause-former : goal.returns-in-Some-clause-former
returns-in-Some-clause-former c =
    c.request_in-former.ensures
    ∙ seen-at c.args.places.now.items c.in-Some.at c.args.n c.requires.rises c.in-Some.ensures

pub returns-in-Some-clause-put : goal.returns-in-Some-clause-put
returns-in-Some-clause-put c =
    puts-set c.args.places.now.items c.in-Some.at c.args.n (Some c.args.request)
    c.requires.rises c.in-Some.ensures

pub returns-in_err-insert-clause-succeeds : goal.returns-in_err-insert-clause-succeeds
returns-in_err-insert-clause-succeeds c = λ some.
    absurd (cc (
      some,
      ap is_some (absent c.args.n c.args.places.now.items c.in_default.ensures),
    ))

pub returns-clause-order : goal.returns-clause-order
returns-clause-order c =
    subst IsInOrder (sym c.in_ok-insert.ensures.items)
    (enters-among c.args.places.now.items c.first_from-at.result c.args.n c.args.request
    c.requires c.first_from-at.ensures.below c.first_from-at.ensures.beyond
    c.in_default.ensures).order

pub returns-clause-former : goal.returns-clause-former
returns-clause-former c = sym (absent c.args.n c.args.places.now.items c.in_default.ensures)

pub returns-clause-put : goal.returns-clause-put
returns-clause-put c =
    subst
    (λ ps. Puts (pending_among (opened c.args.places.now.items)) (pending_among (opened ps))
    c.args.n (Some c.args.request))
    (sym c.in_ok-insert.ensures.items)
    (enters-among c.args.places.now.items c.first_from-at.result c.args.n c.args.request
    c.requires c.first_from-at.ensures.below c.first_from-at.ensures.beyond
    c.in_default.ensures).puts
