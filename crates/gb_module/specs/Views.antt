-- What values of the code stand for.
use Rattle.gb_formats.specs.Devices as devices
use Rattle.gb_formats.specs.Module as ports
use Rattle.gb_module.specs.declared.cport_state.CportState.{CportState}
use Rattle.gb_module.specs.declared.cport_state.CportState.TheVariants as state
use Rattle.gb_module.specs.declared.device.Device.{Device}
use Rattle.gb_module.specs.declared.device.Device.TheVariants as device
use Rattle.gb_module.specs.declared.stir.Stir.{Stir}
use Rattle.gb_module.specs.declared.stir.Stir.TheVariants as stir

-- the state of a CPort
abbrev pub cport_state_of : CportState → ports.CportState
cport_state_of state.Off = ports.Off
cport_state_of state.On = ports.On
cport_state_of state.Quiet = ports.Quiet

-- the device behind a CPort
abbrev pub seen : Device → devices.Device
seen (device.Gpio gpio) = devices.Gpio gpio
seen (device.I2c i2c) = devices.I2c i2c
seen (device.Spi spi) = devices.Spi spi
seen (device.Uart uart) = devices.Uart
seen (device.Loopback loopback) = devices.Loopback
seen (device.Firmware loader) = devices.Firmware loader

-- what comes from outside
abbrev pub stir_of : Stir → devices.Stir
stir_of (stir.Level line value) = devices.Level line value
stir_of (stir.Serial control) = devices.Serial control
