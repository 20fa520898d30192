use Rattle.std.proofs.Common.{rules, ap, ◌∙◌}
use Rattle.gb_formats.specs.I2cRecords.{op_size, op_written_size}
use Rattle.gb_bridge_payload.proofs.I2cLaws.{are_ops, op_weight, ops_weight}
use Rattle.gb_bridge_payload.proofs.Transfers.{counted_more}
use Rattle.gb_bridge_payload.proofs.transfer_op.written_by_ops.Goals as goal

pub loop-preserved : goal.loop-preserved
loop-preserved c =
    counted_more op_size op_weight ops_weight 65535 c.args.count c.loop.counter c.loop.size
    c.written_size.result c.args.ops.now c.loop.rest.now _ are_ops (search rules)
    c.first.ensures.rest (c.written_size.ensures ∙ ap op_written_size c.first.ensures.op)
    (search rules) c.loop.invariant
