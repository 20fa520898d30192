use Rattle.std.proofs.Common.{arith, ap, ◌∙◌}
use Rattle.gb_formats.specs.I2cDevice.{has_strange_flags, is_elsewhere}
use Rattle.gb_formats.specs.I2cRecords.{op_read_size}
use Rattle.gb_i2c.proofs.Surveys.{surveyed_more}
use Rattle.gb_i2c.proofs.survey.Survey.of.Goals as goal

pub loop-preserved : goal.loop-preserved
loop-preserved c =
    surveyed_more c.args.count c.loop.counter c.loop.survey.read c.read_size.result
    c.loop.survey.strange c.loop.survey.elsewhere _ _ c.args.ops.now c.loop.rest.now
    c.first.result.1.now c.loop-test.true c.first.ensures.rest
    (ap has_strange_flags c.first.ensures.op) (ap is_elsewhere c.first.ensures.op)
    (c.read_size.ensures ∙ ap op_read_size c.first.ensures.op) (omega arith) c.loop.invariant
