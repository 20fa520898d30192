-- The place of the number is empty, and is let go where it is the first.
use Rattle.std.proofs.Common.{arith, subst, sym, ◌∙◌, None}
use Rattle.gb_table.proofs.Looking.{stays}
use Rattle.gb_table.specs.Table.{Puts}
use Rattle.gb_ops.proofs.Placed.{absent, place-inside, puts-set, rises-set, seen-at}
use Rattle.gb_ops.specs.Places.{opened, pending_among}
use Rattle.gb_ops.proofs.open_list.leave_among.Goals as goal

pub returns-in_err-at-clause-request : goal.returns-in_err-at-clause-request
returns-in_err-at-clause-request c =
    c.from_residual.ensures ∙ sym (absent c.args.n c.args.places.now.items c.in_err-at.ensures)

pub returns-in_err-at-clause-left : goal.returns-in_err-at-clause-left
returns-in_err-at-clause-left c =
    stays (pending_among (opened c.args.places.now.items)) c.args.n None
    (absent c.args.n c.args.places.now.items c.in_err-at.ensures)

pub returns-in_err-request-clause-request : goal.returns-in_err-request-clause-request
returns-in_err-request-clause-request c =
    c.from_residual-in_err-request.ensures ∙ sym c.in_err-request.was ∙ c.request_in.ensures
    ∙ seen-at c.args.places.now.items c.in_ok-at.at c.args.n c.requires.rises c.in_ok-at.ensures

pub returns-in_err-request-clause-left : goal.returns-in_err-request-clause-left
returns-in_err-request-clause-left c =
    stays (pending_among (opened c.args.places.now.items)) c.args.n None
    (sym (sym c.in_err-request.was ∙ c.request_in.ensures
    ∙ seen-at c.args.places.now.items c.in_ok-at.at c.args.n c.requires.rises c.in_ok-at.ensures))

pub index_mut-requires : goal.index_mut-requires
index_mut-requires c =
    let inside = place-inside c.args.places.now.items c.in_ok-at.at c.args.n c.in_ok-at.ensures in
    omega (arith, inside, c.args.places.now.ok)

pub trim-requires : goal.trim-requires
trim-requires c =
    rises-set c.args.places.now.items c.in_ok-at.at c.args.n None c.requires.rises
    c.in_ok-at.ensures

pub returns-clause-request : goal.returns-clause-request
returns-clause-request c =
    sym c.in_ok-request.was ∙ c.request_in.ensures
    ∙ seen-at c.args.places.now.items c.in_ok-at.at c.args.n c.requires.rises c.in_ok-at.ensures

pub returns-clause-left : goal.returns-clause-left
returns-clause-left c =
    subst
    (λ es. Puts (pending_among (opened c.args.places.now.items)) (pending_among es) c.args.n None)
    (sym c.trim.ensures.same)
    (puts-set c.args.places.now.items c.in_ok-at.at c.args.n None c.requires.rises
    c.in_ok-at.ensures)
