-- The ops that are left of a transfer.
use Rattle.std.specs.Prelude.{◌≡◌, ◌*◌, ℕ, List, length, sum_by}
use Rattle.gb_formats.specs.I2cRecords.{op_size, op_written_size, ops_at}

-- so many ops, and as many bytes as they write
pub record AreCounted (count : ℕ) (ops data_bytes : List ℕ) : Type 0 where
  pub whole : length ops ≡ op_size * count
  pub written : length data_bytes ≡ sum_by op_written_size (ops_at count ops)
