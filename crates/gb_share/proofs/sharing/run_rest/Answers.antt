use Rattle.std.proofs.Common.{arith, ◌<◌, ◌∙◌, length}
use Rattle.std.proofs.lemmas.Option.{slice_get-get_or}
use Rattle.gb_share.proofs.Results.{err_same}
use Rattle.gb_share.proofs.Rests.{numbered_same, run_next, same_set, valid_same, whole_next}
use Rattle.gb_share.proofs.Teams.{get_low}
use Rattle.gb_share.proofs.Using.{room_most, uses_less, uses_set, uses_stop}
use Rattle.gb_share.proofs.sharing.run_rest.Goals as goal
use Rattle.gb_share.specs.Hands.{knows}
use Rattle.gb_share.specs.Uses.{all_left}

pub run-requires-clause-valid : goal.run-requires-clause-valid
run-requires-clause-valid c κs =
    valid_same c.args.all.now c.loop-at.all c.loop-at.invariant.same c.requires.valid c.loop-at.at
    _ (slice_get-get_or c.loop-at.all c.loop-at.at c.index-all-at.result
    (omega (arith, c.loop-at-test.true, c.loop-at.auto.all)))

pub returns-in_err-run-clause-same : goal.returns-in_err-run-clause-same
returns-in_err-run-clause-same c =
    same_set c.args.all.now c.loop-at.all c.loop-at.at _ c.run.new.self c.loop-at.invariant.same
    (slice_get-get_or c.loop-at.all c.loop-at.at c.index-all-at.result
    (omega (arith, c.loop-at-test.true, c.loop-at.auto.all)))
    c.run.ensures.who c.run.ensures.lines

pub loop-at-preserved : goal.loop-at-preserved
loop-at-preserved c =
    let low : c.loop-at.at < length c.loop-at.all =
    omega (arith, c.loop-at-test.true, c.loop-at.auto.all) in
    let there = slice_get-get_or c.loop-at.all c.loop-at.at c.index-all-at.result low in
    let numbered = numbered_same c.args.all.now c.loop-at.all c.loop-at.invariant.same
    c.requires.numbered in record {
      own = c.run.ensures.own;
      parts = c.run.ensures.parts ∙ c.loop-at.invariant.parts;
      same = same_set c.args.all.now c.loop-at.all c.loop-at.at _ c.run.new.self
          c.loop-at.invariant.same there c.run.ensures.who c.run.ensures.lines;
      ran = λ v have. run_next c.loop-at.all c.loop-at.at _ c.run.new.self v _ _ numbered there
          c.run.ensures.who c.in_ok-run.ensures.runs (c.loop-at.invariant.ran v have);
      left = uses_set _ c.loop-at.all c.loop-at.at _ c.run.new.self _ _ _ there
          c.loop-at.invariant.left c.in_ok-run.ensures.left;
      whole = whole_next c.loop-at.all c.loop-at.at c.run.new.self low
          (c.in_ok-run.ensures.whole c.loop-at.invariant.parts) c.loop-at.invariant.whole;
    }

pub returns-clause-whole : goal.returns-clause-whole
returns-clause-whole c n x at =
    let low = get_low c.loop-at.all n x at in
    c.loop-at.invariant.whole n x (omega (arith, c.loop-at-test.false, c.loop-at.auto.all)) at

pub returns-in_err-run-clause-uses : goal.returns-in_err-run-clause-uses
returns-in_err-run-clause-uses c =
    uses_stop _ c.loop-at.all c.loop-at.at _ _ _ _
    (slice_get-get_or c.loop-at.all c.loop-at.at c.index-all-at.result
    (omega (arith, c.loop-at-test.true, c.loop-at.auto.all)))
    c.loop-at.invariant.left c.run.ensures.uses

pub returns-in_err-run-clause-spent : goal.returns-in_err-run-clause-spent
returns-in_err-run-clause-spent c room is =
    room_most (all_left c.args.all.now) _ (knows c.args.hand.now) _
    (c.run.ensures.parts ∙ c.loop-at.invariant.parts) room
    (uses_stop _ c.loop-at.all c.loop-at.at _ _ _ _
    (slice_get-get_or c.loop-at.all c.loop-at.at c.index-all-at.result
    (omega (arith, c.loop-at-test.true, c.loop-at.auto.all)))
    c.loop-at.invariant.left c.run.ensures.uses)
    (c.in_err-run.ensures.spent (err_same _ _ _ c.from_residual.ensures.1 is))

pub returns-clause-uses : goal.returns-clause-uses
returns-clause-uses c =
    uses_less _ _ _ _ _ _ (omega arith) (omega arith) c.loop-at.invariant.left
