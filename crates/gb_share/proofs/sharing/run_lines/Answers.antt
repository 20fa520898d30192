use Rattle.std.proofs.Common.{ap, arith, ◌∙◌}
use Rattle.gb_share.proofs.AloneEnds.{alone_later}
use Rattle.gb_share.proofs.BehindFull.{fresh_marks}
use Rattle.gb_share.proofs.Rests.{numbered_same, valid_same, whole_first}
use Rattle.gb_share.proofs.Results.{err_same, on_ok_then}
use Rattle.gb_share.proofs.Teams.{opening_ran}
use Rattle.gb_share.proofs.Using.{first_room, rest_room, room_most, uses_both, uses_less, uses_more}
use Rattle.gb_share.proofs.sharing.run_lines.Goals as goal
use Rattle.gb_share.specs.Doing.{done_by}
use Rattle.gb_share.specs.Hands.{knows}

pub run_rest-requires-clause-numbered : goal.run_rest-requires-clause-numbered
run_rest-requires-clause-numbered g c =
    numbered_same c.args.others.now c.run_all.new.all c.run_all.ensures.same c.requires.others.0

pub run_rest-requires-clause-valid : goal.run_rest-requires-clause-valid
run_rest-requires-clause-valid g c =
    valid_same c.args.others.now c.run_all.new.all c.run_all.ensures.same c.requires.valid.1

pub returns-clause-ran : goal.returns-clause-ran
returns-clause-ran g c =
    on_ok_then c.run_rest.result
    (λ ran. record {
      middle = knows c.run.new.hand;
      within = c.run.new.hand.within;
      opening = opening_ran c.args.first.now c.run.new.self _ _ c.requires.first.0
          c.requires.first.1 c.in_ok-run.ensures.runs;
      marked = c.in_ok-run.ensures.runs.marks
          (fresh_marks c.args.first.now _ c.requires.first.1
          (ap (λ n. done_by n (knows c.args.hand.now)) c.requires.first.0 ∙ c.requires.idle));
      later = ran (knows c.run.new.hand) c.in_ok-run_all.ensures.ran;
    })
    c.run_rest.ensures.ran

pub returns-clause-exact : goal.returns-clause-exact
returns-clause-exact g c start =
    on_ok_then c.run_rest.result
    (λ ran. alone_later c.run.new.self (knows c.run.new.hand) (knows c.run_rest.new.hand) _ _
    (c.in_ok-run.ensures.alone start)
    (ran (knows c.run.new.hand) c.in_ok-run_all.ensures.ran).adds)
    c.run_rest.ensures.ran

pub returns-clause-whole : goal.returns-clause-whole
returns-clause-whole g c =
    on_ok_then c.run_rest.result
    (λ whole. whole_first c.run.new.self c.run_rest.new.all
    (c.in_ok-run.ensures.whole c.requires.all) whole)
    c.run_rest.ensures.whole

pub returns-in_err-run-clause-uses : goal.returns-in_err-run-clause-uses
returns-in_err-run-clause-uses g c =
    uses_less _ _ _ _ _ _ (omega arith) (omega arith) c.run.ensures.uses

pub returns-in_err-run_all-clause-uses : goal.returns-in_err-run_all-clause-uses
returns-in_err-run_all-clause-uses g c =
    uses_both _ _ _ _ _ _ c.in_ok-run.ensures.left c.run_all.ensures.uses

pub returns-clause-uses : goal.returns-clause-uses
returns-clause-uses g c =
    uses_both _ _ _ _ _ _ c.in_ok-run.ensures.left
    (uses_more _ _ _ _ _ _ c.in_ok-run_all.ensures.left c.run_rest.ensures.uses)

pub returns-in_err-run-clause-spent : goal.returns-in_err-run-clause-spent
returns-in_err-run-clause-spent g c is =
    room_most _ _ (knows c.args.hand.now) (knows c.run.new.hand)
    (c.run.ensures.parts ∙ c.requires.all)
    (first_room c.args.first.now c.args.others.now (knows c.args.hand.now) c.requires.none.1
    c.requires.few)
    c.run.ensures.uses (c.in_err-run.ensures.spent (err_same _ _ _ c.from_residual.ensures.1 is))

pub returns-clause-spent : goal.returns-clause-spent
returns-clause-spent g c is =
    c.run_rest.ensures.spent
    (rest_room _ _ c.args.first.now c.args.others.now _ _ _ c.requires.none.1 c.requires.few
    c.in_ok-run.ensures.left c.in_ok-run_all.ensures.left) is
