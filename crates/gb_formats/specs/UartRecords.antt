-- Records of the UART protocol (Greybus Specification, "UART Protocol"; in Linux's
-- greybus_protocols.h `GB_UART_TYPE_..`).
use Rattle.std.specs.Prelude.{ℕ, ◌+◌, ◌==◌, if◌then◌else◌, Result, List, [], ◌∷◌, ◌++◌, length}
use Rattle.std.specs.Prelude.{drop, slice_index}
use Rattle.byteorder.specs.Endian.{little_number}
use Rattle.gb_formats.specs.Bytes.{le16}
use Rattle.gb_formats.specs.Records.{le32, PayloadFault, Row, by_far, row0, row1, row5, u8, u16}
use Rattle.gb_formats.specs.Records.{u32, whole, read_ap_ask, read_far_ask, read_table}

-- the payloads of requests
pub data UartAsk : Type 0 where
  SendData : (bytes : List ℕ) → UartAsk
  ReceiveData : (flags : ℕ) → (bytes : List ℕ) → UartAsk
  SetLineCoding : (rate format parity bits flow : ℕ) → UartAsk
  SetControlLineState : (control : ℕ) → UartAsk
  SendBreak : (state : ℕ) → UartAsk
  SerialState : (control : ℕ) → UartAsk
  ReceiveCredits : (count : ℕ) → UartAsk
  FlushFifos : (flags : ℕ) → UartAsk

-- the payloads of responses, which are all empty
pub data UartReply : Type 0 where
  SendData : UartReply
  ReceiveData : UartReply
  SetLineCoding : UartReply
  SetControlLineState : UartReply
  SendBreak : UartReply
  SerialState : UartReply
  ReceiveCredits : UartReply
  FlushFifos : UartReply

-- the rows of requests, but for SEND_DATA and RECEIVE_DATA, which have as many bytes as they say
abbrev pub uart_asks : List (Row UartAsk)
uart_asks =
    row5 0x04 u32 u8 u8 u8 u8 UartAsk.SetLineCoding
    ∷ row1 0x05 u8 UartAsk.SetControlLineState
    ∷ row1 0x06 u8 UartAsk.SendBreak
    ∷ by_far (row1 0x07 u8 UartAsk.SerialState)
    ∷ by_far (row1 0x08 u16 UartAsk.ReceiveCredits)
    ∷ row1 0x09 u8 UartAsk.FlushFifos
    ∷ []

-- the rows of responses
abbrev pub uart_replies : List (Row UartReply)
uart_replies =
    row0 0x02 UartReply.SendData
    ∷ by_far (row0 0x03 UartReply.ReceiveData)
    ∷ row0 0x04 UartReply.SetLineCoding
    ∷ row0 0x05 UartReply.SetControlLineState
    ∷ row0 0x06 UartReply.SendBreak
    ∷ by_far (row0 0x07 UartReply.SerialState)
    ∷ by_far (row0 0x08 UartReply.ReceiveCredits)
    ∷ row0 0x09 UartReply.FlushFifos
    ∷ []

-- SEND_DATA: a size, and that many bytes
abbrev pub read_send : List ℕ → Result UartAsk PayloadFault
read_send payload =
    whole (2 + little_number 2 payload) payload (UartAsk.SendData (drop 2 payload))

-- RECEIVE_DATA: a size, flags, and that many bytes
abbrev pub read_receive : List ℕ → Result UartAsk PayloadFault
read_receive payload =
    whole (3 + little_number 2 payload) payload
    (UartAsk.ReceiveData (slice_index payload 2) (drop 3 payload))

-- the request that a payload is, whoever makes it
abbrev pub read_uart_ask : ℕ → List ℕ → Result UartAsk PayloadFault
read_uart_ask kind payload =
    if kind == 0x02 then read_send payload
    else if kind == 0x03 then read_receive payload
    else read_table uart_asks kind payload

-- the request of the application processor that a payload is
abbrev pub read_uart_ask_of_ap : ℕ → List ℕ → Result UartAsk PayloadFault
read_uart_ask_of_ap kind payload =
    if kind == 0x02 then read_send payload else read_ap_ask uart_asks kind payload

-- the request of the module that a payload is
abbrev pub read_uart_ask_of_module : ℕ → List ℕ → Result UartAsk PayloadFault
read_uart_ask_of_module kind payload =
    if kind == 0x03 then read_receive payload else read_far_ask uart_asks kind payload

-- the response that a payload is; the type is that of the request
abbrev pub read_uart_reply : ℕ → List ℕ → Result UartReply PayloadFault
read_uart_reply kind payload = read_table uart_replies kind payload

-- the type of a request
abbrev pub uart_ask_kind : UartAsk → ℕ
uart_ask_kind (UartAsk.SendData bytes) = 0x02
uart_ask_kind (UartAsk.ReceiveData flags bytes) = 0x03
uart_ask_kind (UartAsk.SetLineCoding rate format parity bits flow) = 0x04
uart_ask_kind (UartAsk.SetControlLineState control) = 0x05
uart_ask_kind (UartAsk.SendBreak state) = 0x06
uart_ask_kind (UartAsk.SerialState control) = 0x07
uart_ask_kind (UartAsk.ReceiveCredits count) = 0x08
uart_ask_kind (UartAsk.FlushFifos flags) = 0x09

-- the payload of a request
abbrev pub uart_ask_payload : UartAsk → List ℕ
uart_ask_payload (UartAsk.SendData bytes) = le16 (length bytes) ++ bytes
uart_ask_payload (UartAsk.ReceiveData flags bytes) = le16 (length bytes) ++ (flags ∷ bytes)
uart_ask_payload (UartAsk.SetLineCoding rate format parity bits flow) =
    le32 rate ++ (format ∷ parity ∷ bits ∷ flow ∷ [])
uart_ask_payload (UartAsk.SetControlLineState control) = control ∷ []
uart_ask_payload (UartAsk.SendBreak state) = state ∷ []
uart_ask_payload (UartAsk.SerialState control) = control ∷ []
uart_ask_payload (UartAsk.ReceiveCredits count) = le16 count
uart_ask_payload (UartAsk.FlushFifos flags) = flags ∷ []

-- the type of the request that a response answers
abbrev pub uart_reply_kind : UartReply → ℕ
uart_reply_kind UartReply.SendData = 0x02
uart_reply_kind UartReply.ReceiveData = 0x03
uart_reply_kind UartReply.SetLineCoding = 0x04
uart_reply_kind UartReply.SetControlLineState = 0x05
uart_reply_kind UartReply.SendBreak = 0x06
uart_reply_kind UartReply.SerialState = 0x07
uart_reply_kind UartReply.ReceiveCredits = 0x08
uart_reply_kind UartReply.FlushFifos = 0x09

-- the payload of a response
abbrev pub uart_reply_payload : UartReply → List ℕ
uart_reply_payload reply = []
