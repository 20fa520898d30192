-- Which records can be written: each count and length fits its field, a name and a tag are as long
-- as their fields, and the data is as long as the ops or the entries say.
use Rattle.std.specs.Prelude.{◌≡◌, ◌<◌, ◌*◌, ◌/◌, ⊤, ℕ, List, length, sum_by}
use Rattle.gb_formats.specs.FirmwareRecords.{FirmwareAsk, tag_field}
use Rattle.gb_formats.specs.I2cRecords.{I2cAsk, op_size, op_written_size, ops_at}
use Rattle.gb_formats.specs.LoopbackRecords.{LoopbackAsk, LoopbackReply}
use Rattle.gb_formats.specs.SpiRecords.{SpiAsk, SpiReply, entries_at, entry_size}
use Rattle.gb_formats.specs.SpiRecords.{entry_written_size, name_size}
use Rattle.gb_formats.specs.UartRecords.{UartAsk}

-- ops of 6 bytes each, and as many bytes as they write
pub record AreOps (ops data_bytes : List ℕ) : Type 0 where
  pub whole : length ops ≡ op_size * (length ops / op_size)
  pub count : length ops / op_size < 65536
  pub written : length data_bytes ≡ sum_by op_written_size (ops_at (length ops / op_size) ops)

-- entries of 13 bytes each, and as many bytes as they write
pub record AreEntries (entries data_bytes : List ℕ) : Type 0 where
  pub whole : length entries ≡ entry_size * (length entries / entry_size)
  pub count : length entries / entry_size < 65536
  pub written : length data_bytes
      ≡ sum_by entry_written_size (entries_at (length entries / entry_size) entries)

abbrev pub IsI2cAsk : I2cAsk → Type 0
IsI2cAsk I2cAsk.Functionality = ⊤
IsI2cAsk (I2cAsk.Transfer ops data_bytes) = AreOps ops data_bytes

abbrev pub IsSpiAsk : SpiAsk → Type 0
IsSpiAsk SpiAsk.MasterConfig = ⊤
IsSpiAsk (SpiAsk.DeviceConfig select) = ⊤
IsSpiAsk (SpiAsk.Transfer select mode entries data_bytes) = AreEntries entries data_bytes

abbrev pub IsSpiReply : SpiReply → Type 0
IsSpiReply (SpiReply.MasterConfig mask least greatest mode flags selects) = ⊤
IsSpiReply (SpiReply.DeviceConfig mode bits speed device name) = length name ≡ name_size
IsSpiReply (SpiReply.Transfer data_bytes) = ⊤

abbrev pub IsUartAsk : UartAsk → Type 0
IsUartAsk (UartAsk.SendData bytes) = length bytes < 65536
IsUartAsk (UartAsk.ReceiveData flags bytes) = length bytes < 65536
IsUartAsk ask = ⊤

abbrev pub IsLoopbackAsk : LoopbackAsk → Type 0
IsLoopbackAsk LoopbackAsk.Ping = ⊤
IsLoopbackAsk (LoopbackAsk.Transfer first second bytes) = length bytes < 4294967296
IsLoopbackAsk (LoopbackAsk.Sink first second bytes) = length bytes < 4294967296

abbrev pub IsLoopbackReply : LoopbackReply → Type 0
IsLoopbackReply LoopbackReply.Ping = ⊤
IsLoopbackReply (LoopbackReply.Transfer first second bytes) = length bytes < 4294967296
IsLoopbackReply LoopbackReply.Sink = ⊤

abbrev pub IsFirmwareAsk : FirmwareAsk → Type 0
IsFirmwareAsk (FirmwareAsk.Find tag) = length tag ≡ tag_field
IsFirmwareAsk ask = ⊤
