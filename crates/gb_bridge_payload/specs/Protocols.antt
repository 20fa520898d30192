-- The records of each direction of the protocols.
use Rattle.gb_payload.specs.Meaning.{Format}
use Rattle.gb_formats.specs.FirmwareRecords.{FirmwareAsk, FirmwareReply, firmware_ask_kind}
use Rattle.gb_formats.specs.FirmwareRecords.{firmware_ask_payload, firmware_reply_kind}
use Rattle.gb_formats.specs.FirmwareRecords.{firmware_reply_payload, read_firmware_ask}
use Rattle.gb_formats.specs.FirmwareRecords.{read_firmware_reply}
use Rattle.gb_formats.specs.GpioRecords.{GpioAsk, gpio_ask_kind, gpio_ask_payload, read_gpio_ask}
use Rattle.gb_formats.specs.GpioRecords.{GpioReply, gpio_reply_kind, gpio_reply_payload}
use Rattle.gb_formats.specs.GpioRecords.{read_gpio_reply}
use Rattle.gb_formats.specs.I2cRecords.{I2cAsk, i2c_ask_kind, i2c_ask_payload, read_i2c_ask}
use Rattle.gb_formats.specs.I2cRecords.{I2cReply, i2c_reply_kind, i2c_reply_payload, read_i2c_reply}
use Rattle.gb_formats.specs.LoopbackRecords.{LoopbackAsk, loopback_ask_kind, loopback_ask_payload}
use Rattle.gb_formats.specs.LoopbackRecords.{LoopbackReply, loopback_reply_kind}
use Rattle.gb_formats.specs.LoopbackRecords.{loopback_reply_payload, read_loopback_ask}
use Rattle.gb_formats.specs.LoopbackRecords.{read_loopback_reply}
use Rattle.gb_formats.specs.SpiRecords.{SpiAsk, spi_ask_kind, spi_ask_payload, read_spi_ask}
use Rattle.gb_formats.specs.SpiRecords.{SpiReply, spi_reply_kind, spi_reply_payload, read_spi_reply}
use Rattle.gb_formats.specs.UartRecords.{UartAsk, uart_ask_kind, uart_ask_payload, read_uart_ask}
use Rattle.gb_formats.specs.UartRecords.{UartReply, uart_reply_kind, uart_reply_payload}
use Rattle.gb_formats.specs.UartRecords.{read_uart_reply}

-- requests of the GPIO protocol
abbrev pub gpio_asks : Format GpioAsk
gpio_asks = record { read = read_gpio_ask; kind = gpio_ask_kind; payload = gpio_ask_payload }

-- responses of the GPIO protocol
abbrev pub gpio_replies : Format GpioReply
gpio_replies =
    record { read = read_gpio_reply; kind = gpio_reply_kind; payload = gpio_reply_payload }

-- requests of the I2C protocol
abbrev pub i2c_asks : Format I2cAsk
i2c_asks = record { read = read_i2c_ask; kind = i2c_ask_kind; payload = i2c_ask_payload }

-- responses of the I2C protocol
abbrev pub i2c_replies : Format I2cReply
i2c_replies = record { read = read_i2c_reply; kind = i2c_reply_kind; payload = i2c_reply_payload }

-- requests of the SPI protocol
abbrev pub spi_asks : Format SpiAsk
spi_asks = record { read = read_spi_ask; kind = spi_ask_kind; payload = spi_ask_payload }

-- responses of the SPI protocol
abbrev pub spi_replies : Format SpiReply
spi_replies = record { read = read_spi_reply; kind = spi_reply_kind; payload = spi_reply_payload }

-- requests of the UART protocol
abbrev pub uart_asks : Format UartAsk
uart_asks = record { read = read_uart_ask; kind = uart_ask_kind; payload = uart_ask_payload }

-- responses of the UART protocol
abbrev pub uart_replies : Format UartReply
uart_replies =
    record { read = read_uart_reply; kind = uart_reply_kind; payload = uart_reply_payload }

-- requests of the Loopback protocol
abbrev pub loopback_asks : Format LoopbackAsk
loopback_asks =
    record { read = read_loopback_ask; kind = loopback_ask_kind; payload = loopback_ask_payload }

-- responses of the Loopback protocol
abbrev pub loopback_replies : Format LoopbackReply
loopback_replies = record {
  read = read_loopback_reply;
  kind = loopback_reply_kind;
  payload = loopback_reply_payload;
}

-- requests of the Firmware Download protocol
abbrev pub firmware_asks : Format FirmwareAsk
firmware_asks =
    record { read = read_firmware_ask; kind = firmware_ask_kind; payload = firmware_ask_payload }

-- responses of the Firmware Download protocol
abbrev pub firmware_replies : Format FirmwareReply
firmware_replies = record {
  read = read_firmware_reply;
  kind = firmware_reply_kind;
  payload = firmware_reply_payload;
}
