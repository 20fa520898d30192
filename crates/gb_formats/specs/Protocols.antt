-- The numbers of protocols and of classes of bundles (in Linux's greybus_manifest.h
-- `GREYBUS_PROTOCOL_..` and `GREYBUS_CLASS_..`).
use Rattle.std.specs.Prelude.{ℕ}

-- the protocol of a module's Control CPort
abbrev pub control_protocol : ℕ
control_protocol = 0x00

-- the protocol of a GPIO controller
abbrev pub gpio_protocol : ℕ
gpio_protocol = 0x02

-- the protocol of an I2C adapter
abbrev pub i2c_protocol : ℕ
i2c_protocol = 0x03

-- the protocol of a UART
abbrev pub uart_protocol : ℕ
uart_protocol = 0x04

-- the protocol of an SPI master
abbrev pub spi_protocol : ℕ
spi_protocol = 0x0b

-- the protocol of a loopback device
abbrev pub loopback_protocol : ℕ
loopback_protocol = 0x11

-- the protocol of the supervisory controller's connection
abbrev pub svc_protocol : ℕ
svc_protocol = 0x14

-- the protocol of a firmware device that downloads images
abbrev pub firmware_protocol : ℕ
firmware_protocol = 0x17

-- the class of the bundle that has the Control CPort
abbrev pub control_class : ℕ
control_class = 0x00

-- the class of a bundle of bridged protocols, "Bridged PHY"
abbrev pub bridged_class : ℕ
bridged_class = 0x0a

-- the class of a bundle of a loopback device
abbrev pub loopback_class : ℕ
loopback_class = 0x11

-- the class of a bundle of a firmware device, "Vendor Specific"
abbrev pub firmware_class : ℕ
firmware_class = 0xff
