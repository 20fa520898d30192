use Rattle.std.proofs.Common.{arith}
use Rattle.gb_mnfs.proofs.Trims.{back-empty, back-passes, back-stops}
use Rattle.gb_mnfs.proofs.trimmed.without_back.Goals as goal
use Rattle.gb_mnfs.proofs.trimmed.without_back.Goals.{then-loop-end-test+else-line-end-eq32}
use Rattle.gb_mnfs.proofs.trimmed.without_back.Goals.{else-loop-end-test}

pub loop-end-preserved : goal.loop-end-preserved
loop-end-preserved c = record {
  within = omega (arith, c.loop-end.invariant.within);
  read =
      back-passes c.args.line.now c.loop-end.end c.loop-end-test.true c.loop-end.invariant.within
      c.if-line-end-eq32.true c.loop-end.invariant.read;
}

pub returns : goal.returns
returns c = elim c.loop-end-test.branch [
  | then-loop-end-test+else-line-end-eq32 w ↦
      back-stops c.args.line.now c.loop-end.end w.loop-end-test.true c.loop-end.invariant.within
      w.if-line-end-eq32.false c.loop-end.invariant.read
  | else-loop-end-test w ↦
      back-empty c.args.line.now c.loop-end.end (omega (arith, w.loop-end-test.false))
      c.loop-end.invariant.read
]
