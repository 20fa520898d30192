-- Records of the I2C protocol (Greybus Specification, "I2C Protocol"; in Linux's
-- greybus_protocols.h `GB_I2C_TYPE_..`).
use Rattle.std.specs.Prelude.{ℕ, zero, suc, ◌+◌, ◌*◌, ◌/◌, ◌==◌, Bool, if◌then◌else◌, Result, Ok}
use Rattle.std.specs.Prelude.{List, [], ◌∷◌, ◌++◌, length, take, drop, sum_by}
use Rattle.byteorder.specs.Endian.{little_number}
use Rattle.gb_formats.specs.Bytes.{le16}
use Rattle.gb_formats.specs.Records.{le32, PayloadFault, has_read_flag, Row, row0, row1, u32, whole}
use Rattle.gb_formats.specs.Records.{read_table}

-- The payloads of requests. The ops are the bytes of the ops as they stand in the payload, the data
-- those behind them.
pub data I2cAsk : Type 0 where
  Functionality : I2cAsk
  Transfer : (ops data_bytes : List ℕ) → I2cAsk

-- the payloads of responses
pub data I2cReply : Type 0 where
  Functionality : (flags : ℕ) → I2cReply
  Transfer : (data_bytes : List ℕ) → I2cReply

-- one op of a transfer (`gb_i2c_transfer_op`)
pub record TransferOp : Type 0 where
  pub addr : ℕ
  pub flags : ℕ
  pub size : ℕ

-- how many bytes an op has
abbrev pub op_size : ℕ
op_size = 6

-- the op in the first bytes
abbrev pub op_at : List ℕ → TransferOp
op_at bytes = record {
  addr = little_number 2 bytes;
  flags = little_number 2 (drop 2 bytes);
  size = little_number 2 (drop 4 bytes);
}

-- so many ops, one after the other
abbrev pub ops_at : ℕ → List ℕ → List TransferOp
ops_at zero bytes = []
ops_at (suc n) bytes = op_at bytes ∷ ops_at n (drop op_size bytes)

-- flag 0001 is a read
abbrev pub op_reads : TransferOp → Bool
op_reads op = has_read_flag op.flags

-- how many bytes an op writes
abbrev pub op_written_size : TransferOp → ℕ
op_written_size op = if op_reads op then 0 else op.size

-- how many bytes an op reads
abbrev pub op_read_size : TransferOp → ℕ
op_read_size op = if op_reads op then op.size else 0

-- The size of a transfer: the count, the ops, and as many bytes as the write ops' sizes add up to.
abbrev pub i2c_transfer_size : ℕ → List TransferOp → ℕ
i2c_transfer_size count ops = 2 + op_size * count + sum_by op_written_size ops

-- a transfer of so many ops
abbrev pub read_i2c_transfer : ℕ → List ℕ → Result I2cAsk PayloadFault
read_i2c_transfer count payload =
    whole (i2c_transfer_size count (ops_at count (drop 2 payload))) payload
    (I2cAsk.Transfer (take (op_size * count) (drop 2 payload))
    (drop (2 + op_size * count) payload))

-- the rows of requests, but for TRANSFER
abbrev pub i2c_asks : List (Row I2cAsk)
i2c_asks = row0 0x02 I2cAsk.Functionality ∷ []

-- the rows of responses, but for TRANSFER, whose response is the data read
abbrev pub i2c_replies : List (Row I2cReply)
i2c_replies = row1 0x02 u32 I2cReply.Functionality ∷ []

-- the request that a payload is
abbrev pub read_i2c_ask : ℕ → List ℕ → Result I2cAsk PayloadFault
read_i2c_ask kind payload =
    if kind == 0x05 then read_i2c_transfer (little_number 2 payload) payload
    else read_table i2c_asks kind payload

-- the response that a payload is; the type is that of the request
abbrev pub read_i2c_reply : ℕ → List ℕ → Result I2cReply PayloadFault
read_i2c_reply kind payload =
    if kind == 0x05 then Ok (I2cReply.Transfer payload) else read_table i2c_replies kind payload

-- the type of a request
abbrev pub i2c_ask_kind : I2cAsk → ℕ
i2c_ask_kind I2cAsk.Functionality = 0x02
i2c_ask_kind (I2cAsk.Transfer ops data_bytes) = 0x05

-- the payload of a request
abbrev pub i2c_ask_payload : I2cAsk → List ℕ
i2c_ask_payload I2cAsk.Functionality = []
i2c_ask_payload (I2cAsk.Transfer ops data_bytes) =
    le16 (length ops / op_size) ++ (ops ++ data_bytes)

-- the type of the request that a response answers
abbrev pub i2c_reply_kind : I2cReply → ℕ
i2c_reply_kind (I2cReply.Functionality flags) = 0x02
i2c_reply_kind (I2cReply.Transfer data_bytes) = 0x05

-- the payload of a response
abbrev pub i2c_reply_payload : I2cReply → List ℕ
i2c_reply_payload (I2cReply.Functionality flags) = le32 flags
i2c_reply_payload (I2cReply.Transfer data_bytes) = data_bytes
