-- The devices of a module's CPorts, one for each protocol that has one: what a request does, and
-- what comes from outside.
use Rattle.std.specs.Prelude.{ℕ, ◌==◌, if◌then◌else◌, Option, Some, None, List, [], ◌∷◌}
use Rattle.gb_base.specs.declared.served.OwnAsk.{OwnAsk}
use Rattle.gb_formats.specs.GpioDevice.{GpioLine, Levelled, first_gpio, restarted_gpio, gpio_step}
use Rattle.gb_formats.specs.GpioDevice.{gpio_level_set, irq_told}
use Rattle.gb_formats.specs.I2cDevice.{I2cDevice, first_i2c, i2c_step}
use Rattle.gb_formats.specs.Loader.{Loader, first_loader}
use Rattle.gb_formats.specs.LoopbackDevice.{loopback_step}
use Rattle.gb_formats.specs.Protocols.{firmware_protocol, gpio_protocol, i2c_protocol}
use Rattle.gb_formats.specs.Protocols.{loopback_protocol, spi_protocol, uart_protocol}
use Rattle.gb_formats.specs.Results.{Step, Stirred, refuses, protocol_bad}
use Rattle.gb_formats.specs.SpiDevice.{first_spi, spi_step}
use Rattle.gb_formats.specs.UartDevice.{uart_step, serial_told}

-- A device: the lines of a GPIO, the memory of an I2C, the last byte of an SPI, a UART, Loopback,
-- or the loader of a firmware device.
pub data Device : Type 0 where
  Gpio : List GpioLine → Device
  I2c : I2cDevice → Device
  Spi : ℕ → Device
  Uart : Device
  Loopback : Device
  Firmware : Loader → Device

-- The device of a protocol in its first state, if there is one.
abbrev pub device_of : ℕ → Option Device
device_of protocol =
    if protocol == gpio_protocol then Some (Gpio first_gpio)
    else if protocol == i2c_protocol then Some (I2c first_i2c)
    else if protocol == spi_protocol then Some (Spi first_spi)
    else if protocol == uart_protocol then Some Uart
    else if protocol == loopback_protocol then Some Loopback
    else if protocol == firmware_protocol then Some (Firmware first_loader)
    else None

-- The first state of a device, but that the levels of its lines stay.
abbrev pub restarted_device : Device → Device
restarted_device (Gpio lines) = Gpio (restarted_gpio lines)
restarted_device (I2c device) = I2c first_i2c
restarted_device (Spi last) = Spi first_spi
restarted_device Uart = Uart
restarted_device Loopback = Loopback
restarted_device (Firmware loader) = Firmware first_loader

-- ---- requests

-- a step of a device of one protocol as one of a device
abbrev pub as_device : {D : Type 0} → (D → Device) → Step D → Step Device
as_device wrap step = record { after = wrap step.after; served = step.served }

-- The step of a device at a request. A firmware device has no requests to it.
abbrev pub device_step : Device → ℕ → List ℕ → Step Device
device_step (Gpio lines) kind payload = as_device Gpio (gpio_step lines kind payload)
device_step (I2c device) kind payload = as_device I2c (i2c_step device kind payload)
device_step (Spi last) kind payload = as_device Spi (spi_step last kind payload)
device_step Uart kind payload = record { after = Uart; served = uart_step kind payload }
device_step Loopback kind payload =
    record { after = Loopback; served = loopback_step kind payload }
device_step (Firmware loader) kind payload = refuses (Firmware loader) protocol_bad

-- ---- stirs from outside

-- What comes from outside: the level of a GPIO line, or the serial state of a UART.
pub data Stir : Type 0 where
  Level : ℕ → ℕ → Stir
  Serial : ℕ → Stir

-- the request that tells of an interrupt, if there was one
abbrev pub irq_asks : Option ℕ → List OwnAsk
irq_asks None = []
irq_asks (Some which) = irq_told which ∷ []

-- a GPIO after a level was set
abbrev pub level_stirred : Levelled → Stirred Device
level_stirred set = record { after = Gpio set.after; asks = irq_asks set.irq }

-- What a stir does to a device; nothing where it isn't of its kind.
abbrev pub device_stir : Device → Stir → Option (Stirred Device)
device_stir (Gpio lines) (Level which new) =
    Some (level_stirred (gpio_level_set lines which new))
device_stir Uart (Serial control) =
    Some (record { after = Uart; asks = serial_told control ∷ [] })
device_stir _ _ = None
