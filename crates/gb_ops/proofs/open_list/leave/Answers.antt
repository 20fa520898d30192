-- The first place isn't empty, and goes.
use Rattle.std.proofs.Common.{ap, subst, sym, ◌∙◌, None}
use Rattle.gb_table.specs.Table.{Puts}
use Rattle.gb_ops.proofs.Placed.{first-open, puts-rest, rises-rest, seen-at}
use Rattle.gb_ops.specs.Places.{Rises, opened, pending_among}
use Rattle.gb_ops.proofs.open_list.leave.Goals as goal

pub trim-requires : goal.trim-requires
trim-requires c =
    subst Rises (sym c.pop_front.ensures.rest)
    (rises-rest c.args.places.now.items c.requires.rises)

pub returns-then-has_number-clause-request : goal.returns-then-has_number-clause-request
returns-then-has_number-clause-request c =
    c.request_in-request.ensures
    ∙ seen-at c.args.places.now.items 0 c.args.n c.requires.rises
    (c.has_number.ensures.0 c.if-has_number.true)

pub returns-then-has_number-clause-left : goal.returns-then-has_number-clause-left
returns-then-has_number-clause-left c =
    subst
    (λ es. Puts (pending_among (opened c.args.places.now.items)) (pending_among es) c.args.n None)
    (sym (c.trim.ensures.same ∙ ap opened c.pop_front.ensures.rest))
    (puts-rest c.args.places.now.items c.args.n c.requires.rises
    (c.has_number.ensures.0 c.if-has_number.true))

pub returns-then-has_number-clause-unchanged : goal.returns-then-has_number-clause-unchanged
returns-then-has_number-clause-unchanged c = λ none.
    absurd (first-open c.args.places.now.items c.args.n c.requires.starts
    (c.has_number.ensures.0 c.if-has_number.true) (sym c.request_in-request.ensures ∙ none))
