-- Bridge lines: the requests that they become, and what their answers say.
use Rattle.std.specs.Prelude.{ℕ, ◌+◌, ◌==◌, nat_lt, Bool, false, ◌||◌, if◌then◌else◌, Result, Ok}
use Rattle.std.specs.Prelude.{Err, List, [], ◌∷◌, ◌++◌, map, length, sum_by}
use Rattle.std.specs.List.{concat}
use Rattle.gb_base.specs.declared.bridge.BridgeAsk.{BridgeAsk}
use Rattle.gb_base.specs.declared.bridge.BridgeAsk.TheVariants as ask
use Rattle.gb_base.specs.declared.bridge.I2cOp.{I2cOp}
use Rattle.gb_base.specs.declared.bridge.I2cOp.TheVariants as i2c
use Rattle.gb_base.specs.declared.bridge.Reading.{Reading}
use Rattle.gb_base.specs.declared.bridge.Reading.TheVariants as reading
use Rattle.gb_base.specs.declared.bridge.SpiOp.{SpiOp}
use Rattle.gb_base.specs.declared.bridge.SpiOp.TheVariants as spi
use Rattle.gb_formats.specs.Bytes.{le16}
use Rattle.gb_formats.specs.GpioRecords.{GpioAsk, GpioReply, gpio_ask_kind, gpio_ask_payload}
use Rattle.gb_formats.specs.GpioRecords.{read_gpio_reply}
use Rattle.gb_formats.specs.I2cRecords.{I2cAsk, I2cReply, i2c_ask_kind, i2c_ask_payload}
use Rattle.gb_formats.specs.I2cRecords.{read_i2c_reply}
use Rattle.gb_formats.specs.LoopbackRecords.{LoopbackAsk, loopback_ask_kind, loopback_ask_payload}
use Rattle.gb_formats.specs.Protocols.{gpio_protocol, i2c_protocol, loopback_protocol}
use Rattle.gb_formats.specs.Protocols.{spi_protocol, uart_protocol}
use Rattle.gb_formats.specs.Records.{PayloadFault, le32}
use Rattle.gb_formats.specs.Results.{most_payload}
use Rattle.gb_formats.specs.SpiRecords.{SpiAsk, SpiReply, read_spi_reply, spi_ask_kind}
use Rattle.gb_formats.specs.SpiRecords.{spi_ask_payload}
use Rattle.gb_formats.specs.UartDevice.{most_sent}
use Rattle.gb_formats.specs.UartRecords.{UartAsk, uart_ask_kind, uart_ask_payload}

-- ---- the requests

-- the protocol of a bridge line
abbrev pub ask_protocol : BridgeAsk → ℕ
ask_protocol (ask.Gpio kind line value) = gpio_protocol
ask_protocol ask.I2cFunctionality = i2c_protocol
ask_protocol (ask.I2cTransfer ops) = i2c_protocol
ask_protocol ask.SpiConfig = spi_protocol
ask_protocol (ask.SpiDevice select) = spi_protocol
ask_protocol (ask.SpiTransfer select mode ops) = spi_protocol
ask_protocol (ask.UartSend bytes) = uart_protocol
ask_protocol (ask.UartCoding rate format parity bits flow) = uart_protocol
ask_protocol (ask.UartByte kind value) = uart_protocol
ask_protocol ask.LoopPing = loopback_protocol
ask_protocol (ask.LoopBytes kind bytes) = loopback_protocol

-- the GPIO request of a type, at a line and with a value where it has them
abbrev pub gpio_request : ℕ → ℕ → ℕ → GpioAsk
gpio_request kind line value =
    if kind == 0x02 then GpioAsk.LineCount
    else if kind == 0x03 then GpioAsk.Activate line
    else if kind == 0x04 then GpioAsk.Deactivate line
    else if kind == 0x05 then GpioAsk.GetDirection line
    else if kind == 0x06 then GpioAsk.DirectionIn line
    else if kind == 0x07 then GpioAsk.DirectionOut line value
    else if kind == 0x08 then GpioAsk.GetValue line
    else if kind == 0x09 then GpioAsk.SetValue line value
    else if kind == 0x0a then GpioAsk.SetDebounce line value
    else if kind == 0x0b then GpioAsk.IrqType line value
    else if kind == 0x0c then GpioAsk.IrqMask line
    else GpioAsk.IrqUnmask line

-- an op of an I2C transfer: its address, flags and size
abbrev pub i2c_op_bytes : I2cOp → List ℕ
i2c_op_bytes (i2c.Get addr len) = le16 addr ++ (le16 1 ++ le16 len)
i2c_op_bytes (i2c.Put addr bytes) = le16 addr ++ (le16 0 ++ le16 (length bytes))

-- what an op writes
abbrev pub i2c_written : I2cOp → List ℕ
i2c_written (i2c.Get addr len) = []
i2c_written (i2c.Put addr bytes) = bytes

-- how much an op reads
abbrev pub i2c_read_size : I2cOp → ℕ
i2c_read_size (i2c.Get addr len) = len
i2c_read_size (i2c.Put addr bytes) = 0

-- an I2C transfer: the ops, then what they write
abbrev pub i2c_transfer : List I2cOp → I2cAsk
i2c_transfer ops = I2cAsk.Transfer (concat (map i2c_op_bytes ops)) (concat (map i2c_written ops))

-- an entry of an SPI transfer: speed 1,000,000, its length, delay 0, cs_change 0, bits 8, its flags
abbrev pub spi_entry : ℕ → ℕ → List ℕ
spi_entry len flags = le32 1000000 ++ (le32 len ++ (le16 0 ++ (0 ∷ 8 ∷ flags ∷ [])))

-- flag 1 reads, flag 2 writes
abbrev pub spi_op_bytes : SpiOp → List ℕ
spi_op_bytes (spi.Get len) = spi_entry len 1
spi_op_bytes (spi.Put bytes) = spi_entry (length bytes) 2
spi_op_bytes (spi.Both bytes) = spi_entry (length bytes) 3

-- what an entry writes
abbrev pub spi_written : SpiOp → List ℕ
spi_written (spi.Get len) = []
spi_written (spi.Put bytes) = bytes
spi_written (spi.Both bytes) = bytes

-- how much an entry reads
abbrev pub spi_read_size : SpiOp → ℕ
spi_read_size (spi.Get len) = len
spi_read_size (spi.Put bytes) = 0
spi_read_size (spi.Both bytes) = length bytes

-- an SPI transfer: the entries, then what they write
abbrev pub spi_transfer : ℕ → ℕ → List SpiOp → SpiAsk
spi_transfer select mode ops =
    SpiAsk.Transfer select mode (concat (map spi_op_bytes ops)) (concat (map spi_written ops))

-- the UART request of a type that has one byte
abbrev pub uart_request : ℕ → ℕ → UartAsk
uart_request kind value =
    if kind == 0x05 then UartAsk.SetControlLineState value
    else if kind == 0x06 then UartAsk.SendBreak value
    else UartAsk.FlushFifos value

-- the Loopback request of a type that carries bytes, with 0 where a number is reserved
abbrev pub loopback_request : ℕ → List ℕ → LoopbackAsk
loopback_request kind bytes =
    if kind == 0x03 then LoopbackAsk.Transfer 0 0 bytes else LoopbackAsk.Sink 0 0 bytes

-- a request: its type and its payload
abbrev pub Request : Type 0
Request = ℕ × List ℕ

-- a request of the GPIO protocol
abbrev pub of_gpio : GpioAsk → Request
of_gpio request = (gpio_ask_kind request, gpio_ask_payload request)

-- a request of the I2C protocol
abbrev pub of_i2c : I2cAsk → Request
of_i2c request = (i2c_ask_kind request, i2c_ask_payload request)

-- a request of the SPI protocol
abbrev pub of_spi : SpiAsk → Request
of_spi request = (spi_ask_kind request, spi_ask_payload request)

-- a request of the UART protocol
abbrev pub of_uart : UartAsk → Request
of_uart request = (uart_ask_kind request, uart_ask_payload request)

-- a request of the Loopback protocol
abbrev pub of_loopback : LoopbackAsk → Request
of_loopback request = (loopback_ask_kind request, loopback_ask_payload request)

-- The request of a bridge line: the type and the payload of a record of its protocol.
abbrev pub ask_request : BridgeAsk → Request
ask_request (ask.Gpio kind line value) = of_gpio (gpio_request kind line value)
ask_request ask.I2cFunctionality = of_i2c I2cAsk.Functionality
ask_request (ask.I2cTransfer ops) = of_i2c (i2c_transfer ops)
ask_request ask.SpiConfig = of_spi SpiAsk.MasterConfig
ask_request (ask.SpiDevice select) = of_spi (SpiAsk.DeviceConfig select)
ask_request (ask.SpiTransfer select mode ops) = of_spi (spi_transfer select mode ops)
ask_request (ask.UartSend bytes) = of_uart (UartAsk.SendData bytes)
ask_request (ask.UartCoding rate format parity bits flow) =
    of_uart (UartAsk.SetLineCoding rate format parity bits flow)
ask_request (ask.UartByte kind value) = of_uart (uart_request kind value)
ask_request ask.LoopPing = of_loopback LoopbackAsk.Ping
ask_request (ask.LoopBytes kind bytes) = of_loopback (loopback_request kind bytes)

-- ---- refusals

-- the reads of a transfer add up to more than a payload, or a `uart send` has too many bytes
abbrev pub asks_too_much : BridgeAsk → Bool
asks_too_much (ask.I2cTransfer ops) = nat_lt most_payload (sum_by i2c_read_size ops)
asks_too_much (ask.SpiTransfer select mode ops) = nat_lt most_payload (sum_by spi_read_size ops)
asks_too_much (ask.UartSend bytes) = nat_lt most_sent (length bytes)
asks_too_much _ = false

-- A bridge line is too large where its payload is, its reads are or its bytes are.
abbrev pub is_too_large : BridgeAsk → Bool
is_too_large what = nat_lt most_payload (length (ask_request what).1) || asks_too_much what

-- Why a bridge line becomes no request.
pub data BridgeFault : Type 0 where
  Unsupported : BridgeFault
  TooLarge : BridgeFault

-- The request that a bridge line becomes on a connection of this protocol.
abbrev pub bridge_answer : ℕ → BridgeAsk → Result Request BridgeFault
bridge_answer protocol what =
    if ask_protocol what == protocol
    then (if is_too_large what then Err TooLarge else Ok (ask_request what))
    else Err Unsupported

-- the credits that a bridge line takes: those of the bytes of a `uart send`
abbrev pub credits_taken : BridgeAsk → ℕ
credits_taken (ask.UartSend bytes) = length bytes
credits_taken _ = 0

-- ---- readings

-- the direction of a GPIO line
abbrev pub direction_reading : ℕ → Reading
direction_reading direction =
    if direction == 0 then reading.Out else if direction == 1 then reading.In else reading.Bad

-- the value of a GPIO line
abbrev pub value_reading : ℕ → Reading
value_reading value = if nat_lt 1 value then reading.Bad else reading.Number value

-- the count of lines, the direction or the value that a GPIO controller answers
abbrev pub gpio_reading : Result GpioReply PayloadFault → Reading
gpio_reading (Ok (GpioReply.LineCount last)) = reading.Number (last + 1)
gpio_reading (Ok (GpioReply.GetDirection direction)) = direction_reading direction
gpio_reading (Ok (GpioReply.GetValue value)) = value_reading value
gpio_reading (Ok _) = reading.Nothing
gpio_reading (Err fault) = reading.Bad

-- the functionality of an I2C adapter is a number
abbrev pub i2c_reading : Result I2cReply PayloadFault → Reading
i2c_reading (Ok (I2cReply.Functionality flags)) = reading.Number flags
i2c_reading (Ok (I2cReply.Transfer bytes)) = reading.Nothing
i2c_reading (Err fault) = reading.Bad

-- the number of chip selects of an SPI master
abbrev pub spi_reading : Result SpiReply PayloadFault → Reading
spi_reading (Ok (SpiReply.MasterConfig mask least greatest mode flags selects)) =
    reading.Number selects
spi_reading (Ok _) = reading.Nothing
spi_reading (Err fault) = reading.Bad

-- LINE_COUNT, GET_DIRECTION and GET_VALUE have a reading
abbrev pub has_gpio_reading : ℕ → Bool
has_gpio_reading kind = kind == 0x02 || kind == 0x05 || kind == 0x08

-- I2C's FUNCTIONALITY and SPI's MASTER_CONFIG, which have one type, answer a number
abbrev pub has_number_reading : ℕ → Bool
has_number_reading kind = kind == 0x02

-- What an answer of success to a request of this protocol and type says.
abbrev pub reading_of : ℕ → ℕ → List ℕ → Reading
reading_of protocol kind payload =
    if protocol == gpio_protocol
    then (if has_gpio_reading kind then gpio_reading (read_gpio_reply kind payload)
    else reading.Nothing)
    else if protocol == i2c_protocol
    then (if has_number_reading kind then i2c_reading (read_i2c_reply kind payload)
    else reading.Nothing)
    else if protocol == spi_protocol
    then (if has_number_reading kind then spi_reading (read_spi_reply kind payload)
    else reading.Nothing)
    else reading.Nothing
