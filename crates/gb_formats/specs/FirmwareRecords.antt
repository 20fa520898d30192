-- Records of the Firmware Download protocol (Greybus Specification, "Firmware Download Protocol";
-- in Linux's greybus_protocols.h `GB_FW_DOWNLOAD_TYPE_..`). A module makes the requests.
use Rattle.std.specs.Prelude.{ℕ, ◌==◌, if◌then◌else◌, Result, Ok, List, [], ◌∷◌, ◌++◌}
use Rattle.gb_formats.specs.Records.{le32, PayloadFault, Row, row0, row1, row2, row3, u8, u32}
use Rattle.gb_formats.specs.Records.{whole, read_table}

-- how many bytes the field of a tag has
abbrev pub tag_field : ℕ
tag_field = 10

-- The payloads of requests. FIND has the ten bytes of a tag, FETCH an id, an offset and a size.
pub data FirmwareAsk : Type 0 where
  Find : (tag : List ℕ) → FirmwareAsk
  Fetch : (id offset size : ℕ) → FirmwareAsk
  Release : (id : ℕ) → FirmwareAsk

-- the payloads of responses
pub data FirmwareReply : Type 0 where
  Find : (id size : ℕ) → FirmwareReply
  Fetch : (bytes : List ℕ) → FirmwareReply
  Release : FirmwareReply

-- the rows of requests, but for FIND
abbrev pub firmware_asks : List (Row FirmwareAsk)
firmware_asks =
    row3 0x02 u8 u32 u32 FirmwareAsk.Fetch ∷ row1 0x03 u8 FirmwareAsk.Release ∷ []

-- the rows of responses, but for FETCH, whose response is the bytes
abbrev pub firmware_replies : List (Row FirmwareReply)
firmware_replies =
    row2 0x01 u8 u32 FirmwareReply.Find ∷ row0 0x03 FirmwareReply.Release ∷ []

-- the request that a payload is
abbrev pub read_firmware_ask : ℕ → List ℕ → Result FirmwareAsk PayloadFault
read_firmware_ask kind payload =
    if kind == 0x01 then whole tag_field payload (FirmwareAsk.Find payload)
    else read_table firmware_asks kind payload

-- the response that a payload is; the type is that of the request
abbrev pub read_firmware_reply : ℕ → List ℕ → Result FirmwareReply PayloadFault
read_firmware_reply kind payload =
    if kind == 0x02 then Ok (FirmwareReply.Fetch payload)
    else read_table firmware_replies kind payload

-- the type of a request
abbrev pub firmware_ask_kind : FirmwareAsk → ℕ
firmware_ask_kind (FirmwareAsk.Find tag) = 0x01
firmware_ask_kind (FirmwareAsk.Fetch id offset size) = 0x02
firmware_ask_kind (FirmwareAsk.Release id) = 0x03

-- the payload of a request
abbrev pub firmware_ask_payload : FirmwareAsk → List ℕ
firmware_ask_payload (FirmwareAsk.Find tag) = tag
firmware_ask_payload (FirmwareAsk.Fetch id offset size) = id ∷ le32 offset ++ le32 size
firmware_ask_payload (FirmwareAsk.Release id) = id ∷ []

-- the type of the request that a response answers
abbrev pub firmware_reply_kind : FirmwareReply → ℕ
firmware_reply_kind (FirmwareReply.Find id size) = 0x01
firmware_reply_kind (FirmwareReply.Fetch bytes) = 0x02
firmware_reply_kind FirmwareReply.Release = 0x03

-- the payload of a response
abbrev pub firmware_reply_payload : FirmwareReply → List ℕ
firmware_reply_payload (FirmwareReply.Find id size) = id ∷ le32 size
firmware_reply_payload (FirmwareReply.Fetch bytes) = bytes
firmware_reply_payload FirmwareReply.Release = []
