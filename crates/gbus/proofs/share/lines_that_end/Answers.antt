use Rattle.std.proofs.Common.{sym, ◌∙◌}
use Rattle.gbus.proofs.Sharing.{ended-at-lf, ended-before}
use Rattle.gbus.proofs.share.lines_that_end.Goals as goal

pub returns-then-last-eq10 : goal.returns-then-last-eq10
returns-then-last-eq10 c =
    sym (ended-at-lf _ _ _ (c.in-Some.ensures.cases).0 c.if-last-eq10.true)
    ∙ c.loop-last.invariant.same

pub loop-last-preserved : goal.loop-last-preserved
loop-last-preserved c = record {
  same = sym (ended-before _ _ _ (c.in-Some.ensures.cases).0 c.if-last-eq10.false)
      ∙ c.loop-last.invariant.same;
}
