-- The ops and then what they write are put behind one another.
use Rattle.std.proofs.Common.{◌++◌, drop, map}
use Rattle.std.specs.List.{concat}
use Rattle.gb_bridge_payload.proofs.Putting.{Putting}
use Rattle.gb_formats.specs.Bridges.{i2c_op_bytes, i2c_transfer, i2c_written}
use Rattle.gb_formats.specs.I2cRecords.{i2c_ask_payload}
use Rattle.gb_i2c.proofs.bridging.transfer.Given as goal

abbrev pub invariant-loop-op : goal.invariant-loop-op
invariant-loop-op l =
    Putting (i2c_ask_payload (i2c_transfer l.ops))
    (concat (map i2c_op_bytes (drop l.op-index l.ops)) ++ concat (map i2c_written l.ops)) l.at
    l.fn.out l.out

abbrev pub invariant-loop-op-2 : goal.invariant-loop-op-2
invariant-loop-op-2 l =
    Putting (i2c_ask_payload (i2c_transfer l.ops))
    (concat (map i2c_written (drop l.op-index l.ops))) l.at l.fn.out l.out
