-- Records of the Loopback protocol (Greybus Specification, "Loopback Protocol"; in Linux's
-- greybus_protocols.h `GB_LOOPBACK_TYPE_..`).
use Rattle.std.specs.Prelude.{ℕ, ◌+◌, ◌==◌, if◌then◌else◌, Result, List, [], ◌∷◌, ◌++◌, length}
use Rattle.std.specs.Prelude.{drop}
use Rattle.byteorder.specs.Endian.{little_number}
use Rattle.gb_formats.specs.Records.{le32, PayloadFault, Row, row0, whole, read_table}

-- the payloads of requests; those with bytes have two numbers that are reserved
pub data LoopbackAsk : Type 0 where
  Ping : LoopbackAsk
  Transfer : (first second : ℕ) → (bytes : List ℕ) → LoopbackAsk
  Sink : (first second : ℕ) → (bytes : List ℕ) → LoopbackAsk

-- the payloads of responses
pub data LoopbackReply : Type 0 where
  Ping : LoopbackReply
  Transfer : (first second : ℕ) → (bytes : List ℕ) → LoopbackReply
  Sink : LoopbackReply

-- the row of requests without bytes
abbrev pub loopback_asks : List (Row LoopbackAsk)
loopback_asks = row0 0x02 LoopbackAsk.Ping ∷ []

-- the rows of responses without bytes
abbrev pub loopback_replies : List (Row LoopbackReply)
loopback_replies = row0 0x02 LoopbackReply.Ping ∷ row0 0x04 LoopbackReply.Sink ∷ []

-- a length, two numbers that are reserved, and that many bytes
abbrev pub read_carried : {A : Type 0} → (ℕ → ℕ → List ℕ → A) → List ℕ → Result A PayloadFault
read_carried made payload =
    whole (12 + little_number 4 payload) payload
    (made (little_number 4 (drop 4 payload)) (little_number 4 (drop 8 payload)) (drop 12 payload))

-- the request that a payload is
abbrev pub read_loopback_ask : ℕ → List ℕ → Result LoopbackAsk PayloadFault
read_loopback_ask kind payload =
    if kind == 0x03 then read_carried LoopbackAsk.Transfer payload
    else if kind == 0x04 then read_carried LoopbackAsk.Sink payload
    else read_table loopback_asks kind payload

-- the response that a payload is; the type is that of the request
abbrev pub read_loopback_reply : ℕ → List ℕ → Result LoopbackReply PayloadFault
read_loopback_reply kind payload =
    if kind == 0x03 then read_carried LoopbackReply.Transfer payload
    else read_table loopback_replies kind payload

-- the type of a request
abbrev pub loopback_ask_kind : LoopbackAsk → ℕ
loopback_ask_kind LoopbackAsk.Ping = 0x02
loopback_ask_kind (LoopbackAsk.Transfer first second bytes) = 0x03
loopback_ask_kind (LoopbackAsk.Sink first second bytes) = 0x04

-- the payload that carries bytes
abbrev pub carried : ℕ → ℕ → List ℕ → List ℕ
carried first second bytes = le32 (length bytes) ++ (le32 first ++ (le32 second ++ bytes))

-- the payload of a request
abbrev pub loopback_ask_payload : LoopbackAsk → List ℕ
loopback_ask_payload LoopbackAsk.Ping = []
loopback_ask_payload (LoopbackAsk.Transfer first second bytes) = carried first second bytes
loopback_ask_payload (LoopbackAsk.Sink first second bytes) = carried first second bytes

-- the type of the request that a response answers
abbrev pub loopback_reply_kind : LoopbackReply → ℕ
loopback_reply_kind LoopbackReply.Ping = 0x02
loopback_reply_kind (LoopbackReply.Transfer first second bytes) = 0x03
loopback_reply_kind LoopbackReply.Sink = 0x04

-- the payload of a response
abbrev pub loopback_reply_payload : LoopbackReply → List ℕ
loopback_reply_payload LoopbackReply.Ping = []
loopback_reply_payload (LoopbackReply.Transfer first second bytes) = carried first second bytes
loopback_reply_payload LoopbackReply.Sink = []
