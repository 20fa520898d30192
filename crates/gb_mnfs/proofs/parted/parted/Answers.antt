use Rattle.std.proofs.Common.{◌+◌}
use Rattle.std.proofs.lemmas.List.{take_rest}
use Rattle.gb_mnfs.proofs.Trims.{part-found, part-passed}
use Rattle.gb_mnfs.proofs.parted.parted.Goals as goal

pub returns-then-b-by : goal.returns-then-b-by
returns-then-b-by c =
    rw (take_rest c.args.line.now (c.loop-i.i + 1))
    (part-found c.args.by c.args.line.now c.loop-i.i c.loop-i-test.true c.if-b-by.true
    c.loop-i.invariant)

pub loop-i-preserved : goal.loop-i-preserved
loop-i-preserved c =
    part-passed c.args.by c.args.line.now c.loop-i.i c.loop-i-test.true c.if-b-by.false
    c.loop-i.invariant
