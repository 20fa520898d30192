-- The records that values of the code stand for.
use Rattle.std.specs.Prelude.{ℕ, List}
use Rattle.gb_formats.specs.FirmwareRecords as firmware
use Rattle.gb_formats.specs.GpioRecords as gpio
use Rattle.gb_formats.specs.I2cRecords as i2c
use Rattle.gb_formats.specs.LoopbackRecords as loopback
use Rattle.gb_formats.specs.SpiRecords as spi
use Rattle.gb_formats.specs.UartRecords as uart
use Rattle.gb_bridge_payload.specs.declared.carried.Carried.{Carried}
use Rattle.gb_bridge_payload.specs.declared.transfer_entry.TransferEntry.{TransferEntry}
use Rattle.gb_bridge_payload.specs.declared.transfer_op.TransferOp.{TransferOp}
use Rattle.gb_bridge_payload.specs.declared.firmware_ask.FirmwareAsk.{FirmwareAsk}
use Rattle.gb_bridge_payload.specs.declared.firmware_ask.FirmwareAsk.TheVariants as firm_ask
use Rattle.gb_bridge_payload.specs.declared.firmware_reply.FirmwareReply.{FirmwareReply}
use Rattle.gb_bridge_payload.specs.declared.firmware_reply.FirmwareReply.TheVariants as firm_reply
use Rattle.gb_bridge_payload.specs.declared.gpio_ask.GpioAsk.{GpioAsk}
use Rattle.gb_bridge_payload.specs.declared.gpio_ask.GpioAsk.TheVariants as gpio_ask_is
use Rattle.gb_bridge_payload.specs.declared.gpio_reply.GpioReply.{GpioReply}
use Rattle.gb_bridge_payload.specs.declared.gpio_reply.GpioReply.TheVariants as gpio_reply_is
use Rattle.gb_bridge_payload.specs.declared.i2c_ask.I2cAsk.{I2cAsk}
use Rattle.gb_bridge_payload.specs.declared.i2c_ask.I2cAsk.TheVariants as i2c_ask_is
use Rattle.gb_bridge_payload.specs.declared.i2c_reply.I2cReply.{I2cReply}
use Rattle.gb_bridge_payload.specs.declared.i2c_reply.I2cReply.TheVariants as i2c_reply_is
use Rattle.gb_bridge_payload.specs.declared.loopback_ask.LoopbackAsk.{LoopbackAsk}
use Rattle.gb_bridge_payload.specs.declared.loopback_ask.LoopbackAsk.TheVariants as loop_ask
use Rattle.gb_bridge_payload.specs.declared.loopback_reply.LoopbackReply.{LoopbackReply}
use Rattle.gb_bridge_payload.specs.declared.loopback_reply.LoopbackReply.TheVariants as loop_reply
use Rattle.gb_bridge_payload.specs.declared.spi_ask.SpiAsk.{SpiAsk}
use Rattle.gb_bridge_payload.specs.declared.spi_ask.SpiAsk.TheVariants as spi_ask_is
use Rattle.gb_bridge_payload.specs.declared.spi_reply.SpiReply.{SpiReply}
use Rattle.gb_bridge_payload.specs.declared.spi_reply.SpiReply.TheVariants as spi_reply_is
use Rattle.gb_bridge_payload.specs.declared.uart_ask.UartAsk.{UartAsk}
use Rattle.gb_bridge_payload.specs.declared.uart_ask.UartAsk.TheVariants as uart_ask_is
use Rattle.gb_bridge_payload.specs.declared.uart_reply.UartReply.{UartReply}
use Rattle.gb_bridge_payload.specs.declared.uart_reply.UartReply.TheVariants as uart_reply_is

-- a request of the GPIO protocol
abbrev pub gpio_ask_of : GpioAsk → gpio.GpioAsk
gpio_ask_of gpio_ask_is.LineCount = gpio.GpioAsk.LineCount
gpio_ask_of (gpio_ask_is.Activate which) = gpio.GpioAsk.Activate which
gpio_ask_of (gpio_ask_is.Deactivate which) = gpio.GpioAsk.Deactivate which
gpio_ask_of (gpio_ask_is.GetDirection which) = gpio.GpioAsk.GetDirection which
gpio_ask_of (gpio_ask_is.DirectionIn which) = gpio.GpioAsk.DirectionIn which
gpio_ask_of (gpio_ask_is.DirectionOut which value) = gpio.GpioAsk.DirectionOut which value
gpio_ask_of (gpio_ask_is.GetValue which) = gpio.GpioAsk.GetValue which
gpio_ask_of (gpio_ask_is.SetValue which value) = gpio.GpioAsk.SetValue which value
gpio_ask_of (gpio_ask_is.SetDebounce which microseconds) =
    gpio.GpioAsk.SetDebounce which microseconds
gpio_ask_of (gpio_ask_is.IrqType which kind) = gpio.GpioAsk.IrqType which kind
gpio_ask_of (gpio_ask_is.IrqMask which) = gpio.GpioAsk.IrqMask which
gpio_ask_of (gpio_ask_is.IrqUnmask which) = gpio.GpioAsk.IrqUnmask which
gpio_ask_of (gpio_ask_is.IrqEvent which) = gpio.GpioAsk.IrqEvent which

-- a response of the GPIO protocol
abbrev pub gpio_reply_of : GpioReply → gpio.GpioReply
gpio_reply_of (gpio_reply_is.LineCount last) = gpio.GpioReply.LineCount last
gpio_reply_of gpio_reply_is.Activate = gpio.GpioReply.Activate
gpio_reply_of gpio_reply_is.Deactivate = gpio.GpioReply.Deactivate
gpio_reply_of (gpio_reply_is.GetDirection direction) = gpio.GpioReply.GetDirection direction
gpio_reply_of gpio_reply_is.DirectionIn = gpio.GpioReply.DirectionIn
gpio_reply_of gpio_reply_is.DirectionOut = gpio.GpioReply.DirectionOut
gpio_reply_of (gpio_reply_is.GetValue value) = gpio.GpioReply.GetValue value
gpio_reply_of gpio_reply_is.SetValue = gpio.GpioReply.SetValue
gpio_reply_of gpio_reply_is.SetDebounce = gpio.GpioReply.SetDebounce
gpio_reply_of gpio_reply_is.IrqType = gpio.GpioReply.IrqType
gpio_reply_of gpio_reply_is.IrqMask = gpio.GpioReply.IrqMask
gpio_reply_of gpio_reply_is.IrqUnmask = gpio.GpioReply.IrqUnmask
gpio_reply_of gpio_reply_is.IrqEvent = gpio.GpioReply.IrqEvent

-- a request of the I2C protocol
abbrev pub i2c_ask_of : I2cAsk → i2c.I2cAsk
i2c_ask_of i2c_ask_is.Functionality = i2c.I2cAsk.Functionality
i2c_ask_of (i2c_ask_is.Transfer ops data_bytes) = i2c.I2cAsk.Transfer ops.now data_bytes.now

-- a response of the I2C protocol
abbrev pub i2c_reply_of : I2cReply → i2c.I2cReply
i2c_reply_of (i2c_reply_is.Functionality flags) = i2c.I2cReply.Functionality flags
i2c_reply_of (i2c_reply_is.Transfer data_bytes) = i2c.I2cReply.Transfer data_bytes.now

-- a request of the SPI protocol
abbrev pub spi_ask_of : SpiAsk → spi.SpiAsk
spi_ask_of spi_ask_is.MasterConfig = spi.SpiAsk.MasterConfig
spi_ask_of (spi_ask_is.DeviceConfig select) = spi.SpiAsk.DeviceConfig select
spi_ask_of (spi_ask_is.Transfer select mode entries data_bytes) =
    spi.SpiAsk.Transfer select mode entries.now data_bytes.now

-- a response of the SPI protocol
abbrev pub spi_reply_of : SpiReply → spi.SpiReply
spi_reply_of (spi_reply_is.MasterConfig mask least greatest mode flags selects) =
    spi.SpiReply.MasterConfig mask least greatest mode flags selects
spi_reply_of (spi_reply_is.DeviceConfig mode bits speed device name) =
    spi.SpiReply.DeviceConfig mode bits speed device name.now
spi_reply_of (spi_reply_is.Transfer data_bytes) = spi.SpiReply.Transfer data_bytes.now

-- a request of the UART protocol
abbrev pub uart_ask_of : UartAsk → uart.UartAsk
uart_ask_of (uart_ask_is.SendData bytes) = uart.UartAsk.SendData bytes.now
uart_ask_of (uart_ask_is.ReceiveData flags bytes) = uart.UartAsk.ReceiveData flags bytes.now
uart_ask_of (uart_ask_is.SetLineCoding rate format parity bits flow) =
    uart.UartAsk.SetLineCoding rate format parity bits flow
uart_ask_of (uart_ask_is.SetControlLineState control) = uart.UartAsk.SetControlLineState control
uart_ask_of (uart_ask_is.SendBreak state) = uart.UartAsk.SendBreak state
uart_ask_of (uart_ask_is.SerialState control) = uart.UartAsk.SerialState control
uart_ask_of (uart_ask_is.ReceiveCredits count) = uart.UartAsk.ReceiveCredits count
uart_ask_of (uart_ask_is.FlushFifos flags) = uart.UartAsk.FlushFifos flags

-- a response of the UART protocol
abbrev pub uart_reply_of : UartReply → uart.UartReply
uart_reply_of uart_reply_is.SendData = uart.UartReply.SendData
uart_reply_of uart_reply_is.ReceiveData = uart.UartReply.ReceiveData
uart_reply_of uart_reply_is.SetLineCoding = uart.UartReply.SetLineCoding
uart_reply_of uart_reply_is.SetControlLineState = uart.UartReply.SetControlLineState
uart_reply_of uart_reply_is.SendBreak = uart.UartReply.SendBreak
uart_reply_of uart_reply_is.SerialState = uart.UartReply.SerialState
uart_reply_of uart_reply_is.ReceiveCredits = uart.UartReply.ReceiveCredits
uart_reply_of uart_reply_is.FlushFifos = uart.UartReply.FlushFifos

-- an op of an I2C transfer
abbrev pub op_of : TransferOp → i2c.TransferOp
op_of op = record { addr = op.addr; flags = op.flags; size = op.size }

-- an entry of an SPI transfer
abbrev pub entry_of : TransferEntry → spi.TransferEntry
entry_of entry = record {
  speed = entry.speed;
  len = entry.len;
  delay = entry.delay;
  cs_change = entry.cs_change;
  bits = entry.bits;
  flags = entry.flags;
}

-- the numbers and the bytes that a payload of the Loopback protocol has
abbrev pub Pieces : Type 0
Pieces = ℕ × ℕ × List ℕ

-- such a record as its pieces
abbrev pub pieces : ℕ → ℕ → List ℕ → Pieces
pieces first second bytes = (first, second, bytes)

-- the pieces of a value
abbrev pub carried_of : Carried → Pieces
carried_of c = pieces c.first c.second c.bytes.now

-- a request of the Loopback protocol
abbrev pub loopback_ask_of : LoopbackAsk → loopback.LoopbackAsk
loopback_ask_of loop_ask.Ping = loopback.LoopbackAsk.Ping
loopback_ask_of (loop_ask.Transfer c) =
    loopback.LoopbackAsk.Transfer c.first c.second c.bytes.now
loopback_ask_of (loop_ask.Sink c) = loopback.LoopbackAsk.Sink c.first c.second c.bytes.now

-- a response of the Loopback protocol
abbrev pub loopback_reply_of : LoopbackReply → loopback.LoopbackReply
loopback_reply_of loop_reply.Ping = loopback.LoopbackReply.Ping
loopback_reply_of (loop_reply.Transfer c) =
    loopback.LoopbackReply.Transfer c.first c.second c.bytes.now
loopback_reply_of loop_reply.Sink = loopback.LoopbackReply.Sink

-- a request of the Firmware Download protocol
abbrev pub firmware_ask_of : FirmwareAsk → firmware.FirmwareAsk
firmware_ask_of (firm_ask.Find tag) = firmware.FirmwareAsk.Find tag.now
firmware_ask_of (firm_ask.Fetch id offset size) = firmware.FirmwareAsk.Fetch id offset size
firmware_ask_of (firm_ask.Release id) = firmware.FirmwareAsk.Release id

-- a response of the Firmware Download protocol
abbrev pub firmware_reply_of : FirmwareReply → firmware.FirmwareReply
firmware_reply_of (firm_reply.Find id size) = firmware.FirmwareReply.Find id size
firmware_reply_of (firm_reply.Fetch bytes) = firmware.FirmwareReply.Fetch bytes.now
firmware_reply_of firm_reply.Release = firmware.FirmwareReply.Release
