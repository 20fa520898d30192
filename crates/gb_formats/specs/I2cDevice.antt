-- The I2C device: a memory of 256 bytes at address 50, with a pointer.
use Rattle.std.specs.Prelude.{ℕ, zero, suc, ◌+◌, ◌/◌, ◌%◌, ◌==◌, nat_lt, Bool, not, if◌then◌else◌}
use Rattle.std.specs.Prelude.{Result, Ok, Err, List, [], ◌∷◌, ◌++◌, length, take, drop, slice_index}
use Rattle.std.specs.Prelude.{slice_set, sum_by}
use Rattle.std.specs.List.{list_any}
use Rattle.gb_formats.specs.I2cRecords.{I2cAsk, I2cReply, TransferOp, op_size, ops_at, op_reads}
use Rattle.gb_formats.specs.I2cRecords.{op_written_size, op_read_size, read_i2c_ask}
use Rattle.gb_formats.specs.I2cRecords.{i2c_reply_payload}
use Rattle.gb_formats.specs.Records.{PayloadFault}
use Rattle.gb_formats.specs.Results.{Step, tells, refuses, fault_result, invalid, nonexistent}
use Rattle.gb_formats.specs.Results.{overflow, most_payload}

-- the memory and the pointer
pub record I2cDevice : Type 0 where
  pub memory : List ℕ
  pub pointer : ℕ

-- so many numbers in a row from this one
unfoldable pub counted_from : ℕ → ℕ → List ℕ
counted_from n zero = []
counted_from n (suc k) = n ∷ counted_from (n + 1) k

-- Byte i first holds i, and the pointer is 0.
abbrev pub first_i2c : I2cDevice
first_i2c = record { memory = counted_from 0 256; pointer = 0 }

-- the address of the device
abbrev pub i2c_address : ℕ
i2c_address = 0x50

-- the pointer goes up by one, from 255 to 0
abbrev pub next_place : ℕ → ℕ
next_place place = (place + 1) % 256

-- a byte is stored at the pointer, which then goes up
abbrev pub after_byte : I2cDevice → ℕ → I2cDevice
after_byte device b = record {
  memory = slice_set device.memory device.pointer b;
  pointer = next_place device.pointer;
}

-- each byte is stored at the pointer, which then goes up
abbrev pub after_stored : I2cDevice → List ℕ → I2cDevice
after_stored device [] = device
after_stored device (b ∷ bs) = after_stored (after_byte device b) bs

-- A write's first byte sets the pointer, the others are stored. An empty write does nothing.
abbrev pub after_write : I2cDevice → List ℕ → I2cDevice
after_write device [] = device
after_write device (b ∷ bs) = after_stored (record device { pointer = b }) bs

-- so many bytes from the pointer on
abbrev pub read_from : List ℕ → ℕ → ℕ → List ℕ
read_from memory place zero = []
read_from memory place (suc n) =
    slice_index memory place ∷ read_from memory (next_place place) n

-- a read moves the pointer in the same way
abbrev pub after_read : I2cDevice → ℕ → I2cDevice
after_read device n = record device { pointer = (device.pointer + n) % 256 }

-- the device after an op
abbrev pub after_op : I2cDevice → List ℕ → TransferOp → I2cDevice
after_op device bytes op =
    if op_reads op then after_read device op.size else after_write device (take op.size bytes)

-- the bytes that an op reads
abbrev pub op_read_bytes : I2cDevice → TransferOp → List ℕ
op_read_bytes device op = read_from device.memory device.pointer (op_read_size op)

-- Ops in order, with the write data that is left and behind the bytes that were read.
abbrev pub ops_run : I2cDevice → List ℕ → List ℕ → List TransferOp → Step I2cDevice
ops_run device bytes front [] = tells device (i2c_reply_payload (I2cReply.Transfer front))
ops_run device bytes front (op ∷ ops) =
    ops_run (after_op device bytes op) (drop (op_written_size op) bytes)
    (front ++ op_read_bytes device op) ops

-- a flag word other than 0 and 1
abbrev pub has_strange_flags : TransferOp → Bool
has_strange_flags op = nat_lt 1 op.flags

-- another address
abbrev pub is_elsewhere : TransferOp → Bool
is_elsewhere op = not (op.addr == i2c_address)

-- a transfer of these ops with this data
abbrev pub i2c_transfer_step : I2cDevice → List TransferOp → List ℕ → Step I2cDevice
i2c_transfer_step device ops bytes =
    if list_any has_strange_flags ops then refuses device invalid
    else if list_any is_elsewhere ops then refuses device nonexistent
    else if nat_lt most_payload (sum_by op_read_size ops) then refuses device overflow
    else ops_run device bytes [] ops

-- what each request does
abbrev pub i2c_asked : I2cDevice → I2cAsk → Step I2cDevice
i2c_asked device I2cAsk.Functionality = tells device (i2c_reply_payload (I2cReply.Functionality 1))
i2c_asked device (I2cAsk.Transfer ops bytes) =
    i2c_transfer_step device (ops_at (length ops / op_size) ops) bytes

-- a request by its payload
abbrev pub i2c_read : I2cDevice → Result I2cAsk PayloadFault → Step I2cDevice
i2c_read device (Ok ask) = i2c_asked device ask
i2c_read device (Err fault) = refuses device (fault_result fault)

-- The I2C device's step.
abbrev pub i2c_step : I2cDevice → ℕ → List ℕ → Step I2cDevice
i2c_step device kind payload = i2c_read device (read_i2c_ask kind payload)
