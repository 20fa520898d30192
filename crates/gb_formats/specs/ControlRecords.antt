-- Records of the Control protocol (Greybus Specification, "Control Protocol"; in Linux's
-- greybus_protocols.h `GB_CONTROL_TYPE_..`).
use Rattle.std.specs.Prelude.{ℕ, ◌==◌, if◌then◌else◌, Result, Ok, List, [], ◌∷◌}
use Rattle.gb_formats.specs.Bytes.{le16}
use Rattle.gb_formats.specs.Records.{PayloadFault, Row, row0, row1, row2, u8, u16, read_table}

-- the payloads of requests
pub data ControlAsk : Type 0 where
  Version : (major minor : ℕ) → ControlAsk
  GetManifestSize : ControlAsk
  GetManifest : ControlAsk
  Connected : (cport : ℕ) → ControlAsk
  Disconnected : (cport : ℕ) → ControlAsk
  Disconnecting : (cport : ℕ) → ControlAsk

-- the payloads of responses
pub data ControlReply : Type 0 where
  Version : (major minor : ℕ) → ControlReply
  GetManifestSize : (size : ℕ) → ControlReply
  GetManifest : (bytes : List ℕ) → ControlReply
  Connected : ControlReply
  Disconnected : ControlReply
  Disconnecting : ControlReply

-- the rows of requests
abbrev pub control_asks : List (Row ControlAsk)
control_asks =
    row2 0x01 u8 u8 ControlAsk.Version
    ∷ row0 0x03 ControlAsk.GetManifestSize
    ∷ row0 0x04 ControlAsk.GetManifest
    ∷ row1 0x05 u16 ControlAsk.Connected
    ∷ row1 0x06 u16 ControlAsk.Disconnected
    ∷ row1 0x0c u16 ControlAsk.Disconnecting
    ∷ []

-- the rows of responses, but for GET_MANIFEST, whose response is the manifest's bytes
abbrev pub control_replies : List (Row ControlReply)
control_replies =
    row2 0x01 u8 u8 ControlReply.Version
    ∷ row1 0x03 u16 ControlReply.GetManifestSize
    ∷ row0 0x05 ControlReply.Connected
    ∷ row0 0x06 ControlReply.Disconnected
    ∷ row0 0x0c ControlReply.Disconnecting
    ∷ []

-- the request that a payload is
abbrev pub read_control_ask : ℕ → List ℕ → Result ControlAsk PayloadFault
read_control_ask kind payload = read_table control_asks kind payload

-- the response that a payload is; the type is that of the request
abbrev pub read_control_reply : ℕ → List ℕ → Result ControlReply PayloadFault
read_control_reply kind payload =
    if kind == 0x04 then Ok (ControlReply.GetManifest payload)
    else read_table control_replies kind payload

-- the type of a request
abbrev pub control_ask_kind : ControlAsk → ℕ
control_ask_kind (ControlAsk.Version major minor) = 0x01
control_ask_kind ControlAsk.GetManifestSize = 0x03
control_ask_kind ControlAsk.GetManifest = 0x04
control_ask_kind (ControlAsk.Connected cport) = 0x05
control_ask_kind (ControlAsk.Disconnected cport) = 0x06
control_ask_kind (ControlAsk.Disconnecting cport) = 0x0c

-- the payload of a request
abbrev pub control_ask_payload : ControlAsk → List ℕ
control_ask_payload (ControlAsk.Version major minor) = major ∷ minor ∷ []
control_ask_payload ControlAsk.GetManifestSize = []
control_ask_payload ControlAsk.GetManifest = []
control_ask_payload (ControlAsk.Connected cport) = le16 cport
control_ask_payload (ControlAsk.Disconnected cport) = le16 cport
control_ask_payload (ControlAsk.Disconnecting cport) = le16 cport

-- the type of the request that a response answers
abbrev pub control_reply_kind : ControlReply → ℕ
control_reply_kind (ControlReply.Version major minor) = 0x01
control_reply_kind (ControlReply.GetManifestSize size) = 0x03
control_reply_kind (ControlReply.GetManifest bytes) = 0x04
control_reply_kind ControlReply.Connected = 0x05
control_reply_kind ControlReply.Disconnected = 0x06
control_reply_kind ControlReply.Disconnecting = 0x0c

-- the payload of a response
abbrev pub control_reply_payload : ControlReply → List ℕ
control_reply_payload (ControlReply.Version major minor) = major ∷ minor ∷ []
control_reply_payload (ControlReply.GetManifestSize size) = le16 size
control_reply_payload (ControlReply.GetManifest bytes) = bytes
control_reply_payload ControlReply.Connected = []
control_reply_payload ControlReply.Disconnected = []
control_reply_payload ControlReply.Disconnecting = []
