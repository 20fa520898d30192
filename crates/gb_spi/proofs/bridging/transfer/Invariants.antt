-- The entries and then what they write are put behind one another.
use Rattle.std.proofs.Common.{◌++◌, drop, map}
use Rattle.std.specs.List.{concat}
use Rattle.gb_bridge_payload.proofs.Putting.{Putting}
use Rattle.gb_formats.specs.Bridges.{spi_op_bytes, spi_transfer, spi_written}
use Rattle.gb_formats.specs.SpiRecords.{spi_ask_payload}
use Rattle.gb_spi.proofs.bridging.transfer.Given as goal

abbrev pub invariant-loop-op : goal.invariant-loop-op
invariant-loop-op l =
    Putting (spi_ask_payload (spi_transfer l.select l.mode l.ops))
    (concat (map spi_op_bytes (drop l.op-index l.ops)) ++ concat (map spi_written l.ops)) l.at
    l.fn.out l.out

abbrev pub invariant-loop-op-2 : goal.invariant-loop-op-2
invariant-loop-op-2 l =
    Putting (spi_ask_payload (spi_transfer l.select l.mode l.ops))
    (concat (map spi_written (drop l.op-index l.ops))) l.at l.fn.out l.out
