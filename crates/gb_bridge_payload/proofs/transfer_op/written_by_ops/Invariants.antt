-- What is written so far and what the rest writes are what all ops write.
use Rattle.gb_formats.specs.I2cRecords.{op_size}
use Rattle.gb_bridge_payload.proofs.I2cLaws.{ops_weight}
use Rattle.gb_bridge_payload.proofs.Transfers.{Counted}
use Rattle.gb_bridge_payload.proofs.transfer_op.written_by_ops.Given as goal

abbrev pub invariant-loop : goal.invariant-loop
invariant-loop l = Counted op_size ops_weight 65535 l.count l.counter l.size l.ops l.rest
