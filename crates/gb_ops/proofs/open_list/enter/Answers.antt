-- A number that is greater than all stands behind them.
use Rattle.std.proofs.Common.{ap, is_some, subst, sym, Some}
use Rattle.gb_table.specs.Table.{Puts}
use Rattle.gb_ops.proofs.Placed.{absent, enters-last, nowhere-below}
use Rattle.gb_ops.specs.Places.{IsInOrder, opened, pending_among}
use Rattle.gb_ops.proofs.open_list.enter.Goals as goal

pub returns-in_err-push_back-clause-succeeds : goal.returns-in_err-push_back-clause-succeeds
returns-in_err-push_back-clause-succeeds c = λ some.
    absurd (cc (
      some,
      ap is_some
          (absent c.args.n c.args.places.now.items
          (nowhere-below c.args.n c.args.places.now.items (c.is_last.ensures c.if-is_last.true))),
    ))

pub returns-then-is_last-clause-order : goal.returns-then-is_last-clause-order
returns-then-is_last-clause-order c =
    subst IsInOrder (sym c.in_ok-push_back.ensures.items)
    (enters-last c.args.places.now.items c.args.n c.args.request c.requires
    (c.is_last.ensures c.if-is_last.true)).order

pub returns-then-is_last-clause-former : goal.returns-then-is_last-clause-former
returns-then-is_last-clause-former c =
    sym (enters-last c.args.places.now.items c.args.n c.args.request c.requires
    (c.is_last.ensures c.if-is_last.true)).absent

pub returns-then-is_last-clause-put : goal.returns-then-is_last-clause-put
returns-then-is_last-clause-put c =
    subst
    (λ ps. Puts (pending_among (opened c.args.places.now.items)) (pending_among (opened ps))
    c.args.n (Some c.args.request))
    (sym c.in_ok-push_back.ensures.items)
    (enters-last c.args.places.now.items c.args.n c.args.request c.requires
    (c.is_last.ensures c.if-is_last.true)).puts
