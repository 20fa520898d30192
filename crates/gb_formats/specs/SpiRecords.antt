-- Records of the SPI protocol (Greybus Specification, "SPI Protocol"; in Linux's
-- greybus_protocols.h `GB_SPI_TYPE_..`).
use Rattle.std.specs.Prelude.{ℕ, zero, suc, ◌+◌, ◌*◌, ◌/◌, ◌%◌, ◌==◌, Bool, if◌then◌else◌, Result}
use Rattle.std.specs.Prelude.{Ok, List, [], ◌∷◌, ◌++◌, length, take, drop, slice_index, sum_by}
use Rattle.byteorder.specs.Endian.{little_number}
use Rattle.gb_formats.specs.Bytes.{le16}
use Rattle.gb_formats.specs.Records.{le32, PayloadFault, has_read_flag, Row, row0, row1, row6, u8}
use Rattle.gb_formats.specs.Records.{u16, u32, whole, read_table}

-- The payloads of requests. The entries are the bytes of the entries as they stand in the payload,
-- the data those behind them.
pub data SpiAsk : Type 0 where
  MasterConfig : SpiAsk
  DeviceConfig : (select : ℕ) → SpiAsk
  Transfer : (select mode : ℕ) → (entries data_bytes : List ℕ) → SpiAsk

-- The payloads of responses. MasterConfig has the mask of bits, and the least and
-- the greatest speed.
pub data SpiReply : Type 0 where
  MasterConfig : (mask least greatest mode flags selects : ℕ) → SpiReply
  DeviceConfig : (mode bits speed device : ℕ) → (name : List ℕ) → SpiReply
  Transfer : (data_bytes : List ℕ) → SpiReply

-- one entry of a transfer (`gb_spi_transfer`)
pub record TransferEntry : Type 0 where
  pub speed : ℕ
  pub len : ℕ
  pub delay : ℕ
  pub cs_change : ℕ
  pub bits : ℕ
  pub flags : ℕ

-- how many bytes an entry has
abbrev pub entry_size : ℕ
entry_size = 13

-- how many bytes the name of a device has
abbrev pub name_size : ℕ
name_size = 32

-- the entry in the first bytes
abbrev pub entry_at : List ℕ → TransferEntry
entry_at bytes = record {
  speed = little_number 4 bytes;
  len = little_number 4 (drop 4 bytes);
  delay = little_number 2 (drop 8 bytes);
  cs_change = slice_index bytes 10;
  bits = slice_index bytes 11;
  flags = slice_index bytes 12;
}

-- so many entries, one after the other
abbrev pub entries_at : ℕ → List ℕ → List TransferEntry
entries_at zero bytes = []
entries_at (suc n) bytes = entry_at bytes ∷ entries_at n (drop entry_size bytes)

-- flag 1 is a read
abbrev pub entry_reads : TransferEntry → Bool
entry_reads entry = has_read_flag entry.flags

-- flag 2 is a write
abbrev pub entry_writes : TransferEntry → Bool
entry_writes entry = entry.flags / 2 % 2 == 1

-- how many bytes an entry writes
abbrev pub entry_written_size : TransferEntry → ℕ
entry_written_size entry = if entry_writes entry then entry.len else 0

-- how many bytes an entry reads
abbrev pub entry_read_size : TransferEntry → ℕ
entry_read_size entry = if entry_reads entry then entry.len else 0

-- The size of a transfer: chip select, mode and count, the entries, and as many bytes as the
-- lengths of the entries with flag 2 add up to.
abbrev pub spi_transfer_size : ℕ → List TransferEntry → ℕ
spi_transfer_size count entries = 4 + entry_size * count + sum_by entry_written_size entries

-- a transfer of so many entries
abbrev pub read_spi_transfer : ℕ → List ℕ → Result SpiAsk PayloadFault
read_spi_transfer count payload =
    whole (spi_transfer_size count (entries_at count (drop 4 payload))) payload
    (SpiAsk.Transfer (slice_index payload 0) (slice_index payload 1)
    (take (entry_size * count) (drop 4 payload)) (drop (4 + entry_size * count) payload))

-- the response to DEVICE_CONFIG
abbrev pub read_device : List ℕ → Result SpiReply PayloadFault
read_device payload =
    whole (8 + name_size) payload
    (SpiReply.DeviceConfig (little_number 2 payload) (slice_index payload 2)
    (little_number 4 (drop 3 payload)) (slice_index payload 7) (drop 8 payload))

-- the rows of requests, but for TRANSFER
abbrev pub spi_asks : List (Row SpiAsk)
spi_asks = row0 0x02 SpiAsk.MasterConfig ∷ row1 0x03 u8 SpiAsk.DeviceConfig ∷ []

-- the rows of responses, but for DEVICE_CONFIG and TRANSFER
abbrev pub spi_replies : List (Row SpiReply)
spi_replies = row6 0x02 u32 u32 u32 u16 u16 u8 SpiReply.MasterConfig ∷ []

-- the request that a payload is
abbrev pub read_spi_ask : ℕ → List ℕ → Result SpiAsk PayloadFault
read_spi_ask kind payload =
    if kind == 0x04 then read_spi_transfer (little_number 2 (drop 2 payload)) payload
    else read_table spi_asks kind payload

-- the response that a payload is; the type is that of the request
abbrev pub read_spi_reply : ℕ → List ℕ → Result SpiReply PayloadFault
read_spi_reply kind payload =
    if kind == 0x03 then read_device payload
    else if kind == 0x04 then Ok (SpiReply.Transfer payload)
    else read_table spi_replies kind payload

-- the type of a request
abbrev pub spi_ask_kind : SpiAsk → ℕ
spi_ask_kind SpiAsk.MasterConfig = 0x02
spi_ask_kind (SpiAsk.DeviceConfig select) = 0x03
spi_ask_kind (SpiAsk.Transfer select mode entries data_bytes) = 0x04

-- the payload of a request
abbrev pub spi_ask_payload : SpiAsk → List ℕ
spi_ask_payload SpiAsk.MasterConfig = []
spi_ask_payload (SpiAsk.DeviceConfig select) = select ∷ []
spi_ask_payload (SpiAsk.Transfer select mode entries data_bytes) =
    select ∷ mode ∷ le16 (length entries / entry_size) ++ (entries ++ data_bytes)

-- the type of the request that a response answers
abbrev pub spi_reply_kind : SpiReply → ℕ
spi_reply_kind (SpiReply.MasterConfig mask least greatest mode flags selects) = 0x02
spi_reply_kind (SpiReply.DeviceConfig mode bits speed device name) = 0x03
spi_reply_kind (SpiReply.Transfer data_bytes) = 0x04

-- the payload of a response
abbrev pub spi_reply_payload : SpiReply → List ℕ
spi_reply_payload (SpiReply.MasterConfig mask least greatest mode flags selects) =
    le32 mask ++ (le32 least ++ (le32 greatest ++ (le16 mode ++ (le16 flags ++ selects ∷ []))))
spi_reply_payload (SpiReply.DeviceConfig mode bits speed device name) =
    le16 mode ++ (bits ∷ le32 speed ++ (device ∷ name))
spi_reply_payload (SpiReply.Transfer data_bytes) = data_bytes
