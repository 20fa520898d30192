-- What a module does: at a request to one of its CPorts, and at a stir from outside.
use Rattle.std.specs.Prelude.{ℕ, ◌==◌, if◌then◌else◌, Option, Some, None, List}
use Rattle.gb_base.specs.declared.served.Served.{Served}
use Rattle.gb_formats.specs.ControlResponder.{control_step}
use Rattle.gb_formats.specs.Devices.{Device, Stir, device_step, device_stir}
use Rattle.gb_formats.specs.Module.{CportState, Module, ModulePort, if_on, port_at, with_changed}
use Rattle.gb_formats.specs.Results.{Step, Stirred, refuses, protocol_bad}

-- ---- requests

-- the answer of a device on a CPort in this state
abbrev pub served_in : CportState → Served → Served
served_in state served = record served { asks = if_on state served.asks }

-- the module after its device's step
abbrev pub port_step : Module → ModulePort → Step Device → Step Module
port_step m port step = record {
  after = with_changed m (record port { device = step.after });
  served = served_in port.state step.served;
}

-- a request at a CPort with a device
abbrev pub port_served : Module → Option ModulePort → ℕ → List ℕ → Step Module
port_served m None kind payload = refuses m protocol_bad
port_served m (Some port) kind payload = port_step m port (device_step port.device kind payload)

-- What a module does at a request to a CPort: CPort 0 is Control, the others have devices.
abbrev pub module_serve : Module → ℕ → ℕ → List ℕ → Step Module
module_serve m c kind payload =
    if c == 0 then control_step m kind payload else port_served m (port_at m c) kind payload

-- ---- stirs from outside

-- the module after a stir of a device, if the stir was of its kind
abbrev pub port_stir : Module → ModulePort → Option (Stirred Device) → Option (Stirred Module)
port_stir m port None = None
port_stir m port (Some stirred) = Some (record {
  after = with_changed m (record port { device = stirred.after });
  asks = if_on port.state stirred.asks;
})

-- a stir at a CPort, if there is one
abbrev pub port_stirred : Module → Option ModulePort → Stir → Option (Stirred Module)
port_stirred m None stir = None
port_stirred m (Some port) stir = port_stir m port (device_stir port.device stir)

-- What a stir does to a module; nothing where it has no such device at the CPort.
abbrev pub module_stir : Module → ℕ → Stir → Option (Stirred Module)
module_stir m c stir = port_stirred m (port_at m c) stir
