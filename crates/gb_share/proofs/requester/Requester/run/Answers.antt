use Rattle.std.proofs.Common.{arith, ◌∙◌}
use Rattle.gb_share.proofs.Teams.{runs_more}
use Rattle.gb_share.proofs.Using.{uses_less, uses_more}
use Rattle.gb_share.proofs.requester.Requester.run.Goals as goal

pub returns-then-not-branch-clause-runs : goal.returns-then-not-branch-clause-runs
returns-then-not-branch-clause-runs g c =
    runs_more _ _ _ _ _ _ c.loop-alloc.invariant.who c.loop-alloc.invariant.runs
    c.in_ok-next.ensures.runs

pub loop-alloc-preserved : goal.loop-alloc-preserved
loop-alloc-preserved g c = record {
  own = c.next.ensures.own;
  parts = c.next.ensures.parts ∙ c.loop-alloc.invariant.parts;
  who = c.next.ensures.who ∙ c.loop-alloc.invariant.who;
  lines = c.next.ensures.lines ∙ c.loop-alloc.invariant.lines;
  runs = runs_more _ _ _ _ _ _ c.loop-alloc.invariant.who c.loop-alloc.invariant.runs
      c.in_ok-next.ensures.runs;
  left = uses_more _ _ _ _ _ _ c.loop-alloc.invariant.left c.in_ok-next.ensures.left;
  alone = λ start. c.in_ok-next.ensures.alone (c.loop-alloc.invariant.alone start);
}

pub returns-in_err-next-clause-uses : goal.returns-in_err-next-clause-uses
returns-in_err-next-clause-uses g c =
    uses_more _ _ _ _ _ _ c.loop-alloc.invariant.left c.next.ensures.uses

pub returns-then-not-branch-clause-uses : goal.returns-then-not-branch-clause-uses
returns-then-not-branch-clause-uses g c =
    uses_more _ _ _ _ _ _ c.loop-alloc.invariant.left c.next.ensures.uses

pub returns-then-not-branch-clause-left : goal.returns-then-not-branch-clause-left
returns-then-not-branch-clause-left g c =
    uses_more _ _ _ _ _ _ c.loop-alloc.invariant.left c.in_ok-next.ensures.left

pub returns-clause-uses : goal.returns-clause-uses
returns-clause-uses g c =
    uses_less _ _ _ _ _ _ (omega arith) (omega arith) c.loop-alloc.invariant.left
