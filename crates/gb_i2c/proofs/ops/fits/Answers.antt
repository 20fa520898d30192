use Rattle.gb_i2c.proofs.Sizes.{measured_large, measured_more, measured_small}
use Rattle.gb_i2c.proofs.ops.fits.Goals as goal

pub returns-then-size-gt-MOST_PAYLOAD : goal.returns-then-size-gt-MOST_PAYLOAD
returns-then-size-gt-MOST_PAYLOAD c =
    measured_large c.loop-op.size c.loop-op.read c.read_size.result c.loop-op.op-index
    c.args.ops.now c.op-item.result c.written.result.now c.loop-op-test.true c.op-item.is
    c.written.ensures c.read_size.ensures c.then-size-gt-MOST_PAYLOAD.either c.loop-op.invariant

pub returns : goal.returns
returns c =
    measured_small c.loop-op.size c.loop-op.read c.loop-op.op-index c.args.ops.now
    c.loop-op-test.false c.loop-op.invariant

pub loop-op-preserved : goal.loop-op-preserved
loop-op-preserved c =
    measured_more c.loop-op.size c.loop-op.read c.read_size.result c.loop-op.op-index c.args.ops.now
    c.op-item.result c.written.result.now c.loop-op-test.true c.op-item.is c.written.ensures
    c.read_size.ensures c.if-size-gt-MOST_PAYLOAD.false c.if-read-gt-MOST_PAYLOAD.false
    c.loop-op.invariant
