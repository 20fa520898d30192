-- Sizes of transfers.
use Rattle.std.specs.Prelude.{ℕ, ◌+◌, ◌/◌, List, length, map}
use Rattle.std.specs.List.{concat}
use Rattle.gb_base.specs.declared.bridge.SpiOp.{SpiOp}
use Rattle.gb_formats.specs.Bridges.{spi_op_bytes, spi_written}
use Rattle.gb_formats.specs.SpiRecords.{TransferEntry, entries_at, entry_size}

-- as many entries as bytes have
abbrev pub entries_in : List ℕ → List TransferEntry
entries_in bytes = entries_at (length bytes / entry_size) bytes

-- how many bytes the payload of a bridge line's transfer has: its head, the entries, and
-- what they write
abbrev pub bridged_size : List SpiOp → ℕ
bridged_size ops =
    4 + length (concat (map spi_op_bytes ops)) + length (concat (map spi_written ops))
