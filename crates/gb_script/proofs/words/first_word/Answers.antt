-- A byte that is no space joins the word.
use Rattle.std.proofs.Common.{refl, arith}
use Rattle.gb_formats.proofs.Words.{HasRead-byte}
use Rattle.gb_script.proofs.words.first_word.Goals as goal

pub loop-end-preserved : goal.loop-end-preserved
loop-end-preserved c = record {
  order = omega (arith, c.loop-end.invariant.order);
  within = omega (arith, c.loop-end-test.true);
  read =
      HasRead-byte c.args.line.now c.loop-start.start c.loop-end.end c.loop-start.start refl
      c.loop-end.invariant.order c.loop-end-test.true c.if-line-end-ne32.true
      c.loop-end.invariant.read;
}
