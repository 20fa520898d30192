use Rattle.std.proofs.Common.{drop}
use Rattle.gb_formats.specs.Bridges.{spi_read_size}
use Rattle.gb_formats.specs.Results.{most_payload}
use Rattle.gb_spi.proofs.Weights.{Weighed}
use Rattle.gb_spi.proofs.ops.reads_fit.Given as goal

abbrev pub invariant-loop-op : goal.invariant-loop-op
invariant-loop-op l = Weighed spi_read_size most_payload l.room l.ops (drop l.op-index l.ops)
