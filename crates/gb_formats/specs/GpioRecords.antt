-- Records of the GPIO protocol (Greybus Specification, "GPIO Protocol"; in Linux's
-- greybus_protocols.h `GB_GPIO_TYPE_..`). LineCount answers the count less 1.
use Rattle.std.specs.Prelude.{ℕ, Result, List, [], ◌∷◌}
use Rattle.gb_formats.specs.Bytes.{le16}
use Rattle.gb_formats.specs.Records.{PayloadFault, Row, by_far, row0, row1, row2, u8, u16}
use Rattle.gb_formats.specs.Records.{read_ap_ask, read_far_ask, read_table}

-- the payloads of requests
pub data GpioAsk : Type 0 where
  LineCount : GpioAsk
  Activate : (which : ℕ) → GpioAsk
  Deactivate : (which : ℕ) → GpioAsk
  GetDirection : (which : ℕ) → GpioAsk
  DirectionIn : (which : ℕ) → GpioAsk
  DirectionOut : (which value : ℕ) → GpioAsk
  GetValue : (which : ℕ) → GpioAsk
  SetValue : (which value : ℕ) → GpioAsk
  SetDebounce : (which microseconds : ℕ) → GpioAsk
  IrqType : (which kind : ℕ) → GpioAsk
  IrqMask : (which : ℕ) → GpioAsk
  IrqUnmask : (which : ℕ) → GpioAsk
  IrqEvent : (which : ℕ) → GpioAsk

-- the payloads of responses
pub data GpioReply : Type 0 where
  LineCount : (last : ℕ) → GpioReply
  Activate : GpioReply
  Deactivate : GpioReply
  GetDirection : (direction : ℕ) → GpioReply
  DirectionIn : GpioReply
  DirectionOut : GpioReply
  GetValue : (value : ℕ) → GpioReply
  SetValue : GpioReply
  SetDebounce : GpioReply
  IrqType : GpioReply
  IrqMask : GpioReply
  IrqUnmask : GpioReply
  IrqEvent : GpioReply

-- the rows of requests
abbrev pub gpio_asks : List (Row GpioAsk)
gpio_asks =
    row0 0x02 GpioAsk.LineCount
    ∷ row1 0x03 u8 GpioAsk.Activate
    ∷ row1 0x04 u8 GpioAsk.Deactivate
    ∷ row1 0x05 u8 GpioAsk.GetDirection
    ∷ row1 0x06 u8 GpioAsk.DirectionIn
    ∷ row2 0x07 u8 u8 GpioAsk.DirectionOut
    ∷ row1 0x08 u8 GpioAsk.GetValue
    ∷ row2 0x09 u8 u8 GpioAsk.SetValue
    ∷ row2 0x0a u8 u16 GpioAsk.SetDebounce
    ∷ row2 0x0b u8 u8 GpioAsk.IrqType
    ∷ row1 0x0c u8 GpioAsk.IrqMask
    ∷ row1 0x0d u8 GpioAsk.IrqUnmask
    ∷ by_far (row1 0x0e u8 GpioAsk.IrqEvent)
    ∷ []

-- the rows of responses
abbrev pub gpio_replies : List (Row GpioReply)
gpio_replies =
    row1 0x02 u8 GpioReply.LineCount
    ∷ row0 0x03 GpioReply.Activate
    ∷ row0 0x04 GpioReply.Deactivate
    ∷ row1 0x05 u8 GpioReply.GetDirection
    ∷ row0 0x06 GpioReply.DirectionIn
    ∷ row0 0x07 GpioReply.DirectionOut
    ∷ row1 0x08 u8 GpioReply.GetValue
    ∷ row0 0x09 GpioReply.SetValue
    ∷ row0 0x0a GpioReply.SetDebounce
    ∷ row0 0x0b GpioReply.IrqType
    ∷ row0 0x0c GpioReply.IrqMask
    ∷ row0 0x0d GpioReply.IrqUnmask
    ∷ by_far (row0 0x0e GpioReply.IrqEvent)
    ∷ []

-- the request that a payload is, whoever makes it
abbrev pub read_gpio_ask : ℕ → List ℕ → Result GpioAsk PayloadFault
read_gpio_ask kind payload = read_table gpio_asks kind payload

-- the request of the application processor that a payload is
abbrev pub read_gpio_ask_of_ap : ℕ → List ℕ → Result GpioAsk PayloadFault
read_gpio_ask_of_ap kind payload = read_ap_ask gpio_asks kind payload

-- the request of the module that a payload is
abbrev pub read_gpio_ask_of_module : ℕ → List ℕ → Result GpioAsk PayloadFault
read_gpio_ask_of_module kind payload = read_far_ask gpio_asks kind payload

-- the response that a payload is; the type is that of the request
abbrev pub read_gpio_reply : ℕ → List ℕ → Result GpioReply PayloadFault
read_gpio_reply kind payload = read_table gpio_replies kind payload

-- the type of a request
abbrev pub gpio_ask_kind : GpioAsk → ℕ
gpio_ask_kind GpioAsk.LineCount = 0x02
gpio_ask_kind (GpioAsk.Activate which) = 0x03
gpio_ask_kind (GpioAsk.Deactivate which) = 0x04
gpio_ask_kind (GpioAsk.GetDirection which) = 0x05
gpio_ask_kind (GpioAsk.DirectionIn which) = 0x06
gpio_ask_kind (GpioAsk.DirectionOut which value) = 0x07
gpio_ask_kind (GpioAsk.GetValue which) = 0x08
gpio_ask_kind (GpioAsk.SetValue which value) = 0x09
gpio_ask_kind (GpioAsk.SetDebounce which microseconds) = 0x0a
gpio_ask_kind (GpioAsk.IrqType which kind) = 0x0b
gpio_ask_kind (GpioAsk.IrqMask which) = 0x0c
gpio_ask_kind (GpioAsk.IrqUnmask which) = 0x0d
gpio_ask_kind (GpioAsk.IrqEvent which) = 0x0e

-- the payload of a request
abbrev pub gpio_ask_payload : GpioAsk → List ℕ
gpio_ask_payload GpioAsk.LineCount = []
gpio_ask_payload (GpioAsk.Activate which) = which ∷ []
gpio_ask_payload (GpioAsk.Deactivate which) = which ∷ []
gpio_ask_payload (GpioAsk.GetDirection which) = which ∷ []
gpio_ask_payload (GpioAsk.DirectionIn which) = which ∷ []
gpio_ask_payload (GpioAsk.DirectionOut which value) = which ∷ value ∷ []
gpio_ask_payload (GpioAsk.GetValue which) = which ∷ []
gpio_ask_payload (GpioAsk.SetValue which value) = which ∷ value ∷ []
gpio_ask_payload (GpioAsk.SetDebounce which microseconds) = which ∷ le16 microseconds
gpio_ask_payload (GpioAsk.IrqType which kind) = which ∷ kind ∷ []
gpio_ask_payload (GpioAsk.IrqMask which) = which ∷ []
gpio_ask_payload (GpioAsk.IrqUnmask which) = which ∷ []
gpio_ask_payload (GpioAsk.IrqEvent which) = which ∷ []

-- the type of the request that a response answers
abbrev pub gpio_reply_kind : GpioReply → ℕ
gpio_reply_kind (GpioReply.LineCount last) = 0x02
gpio_reply_kind GpioReply.Activate = 0x03
gpio_reply_kind GpioReply.Deactivate = 0x04
gpio_reply_kind (GpioReply.GetDirection direction) = 0x05
gpio_reply_kind GpioReply.DirectionIn = 0x06
gpio_reply_kind GpioReply.DirectionOut = 0x07
gpio_reply_kind (GpioReply.GetValue value) = 0x08
gpio_reply_kind GpioReply.SetValue = 0x09
gpio_reply_kind GpioReply.SetDebounce = 0x0a
gpio_reply_kind GpioReply.IrqType = 0x0b
gpio_reply_kind GpioReply.IrqMask = 0x0c
gpio_reply_kind GpioReply.IrqUnmask = 0x0d
gpio_reply_kind GpioReply.IrqEvent = 0x0e

-- the payload of a response
abbrev pub gpio_reply_payload : GpioReply → List ℕ
gpio_reply_payload (GpioReply.LineCount last) = last ∷ []
gpio_reply_payload GpioReply.Activate = []
gpio_reply_payload GpioReply.Deactivate = []
gpio_reply_payload (GpioReply.GetDirection direction) = direction ∷ []
gpio_reply_payload GpioReply.DirectionIn = []
gpio_reply_payload GpioReply.DirectionOut = []
gpio_reply_payload (GpioReply.GetValue value) = value ∷ []
gpio_reply_payload GpioReply.SetValue = []
gpio_reply_payload GpioReply.SetDebounce = []
gpio_reply_payload GpioReply.IrqType = []
gpio_reply_payload GpioReply.IrqMask = []
gpio_reply_payload GpioReply.IrqUnmask = []
gpio_reply_payload GpioReply.IrqEvent = []
