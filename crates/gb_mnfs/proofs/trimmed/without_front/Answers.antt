use Rattle.std.proofs.lemmas.List.{take_rest}
use Rattle.gb_mnfs.proofs.Trims.{front-passes, front-stops}
use Rattle.gb_mnfs.proofs.trimmed.without_front.Goals as goal

pub returns-then-b-ne32 : goal.returns-then-b-ne32
returns-then-b-ne32 c =
    rw (take_rest c.args.line.now c.loop-i.i)
    (front-stops c.args.line.now c.loop-i.i c.loop-i-test.true c.if-b-ne32.true c.loop-i.invariant)

pub loop-i-preserved : goal.loop-i-preserved
loop-i-preserved c =
    front-passes c.args.line.now c.loop-i.i c.loop-i-test.true c.if-b-ne32.false c.loop-i.invariant
