use Rattle.std.proofs.Common.{drop}
use Rattle.gb_spi.proofs.Weights.{Weighed}
use Rattle.gb_spi.proofs.Bridged.{op_size}
use Rattle.gb_spi.proofs.ops.payload_fits.Given as goal

abbrev pub invariant-loop-op : goal.invariant-loop-op
invariant-loop-op l = Weighed op_size 2036 l.room l.ops (drop l.op-index l.ops)
