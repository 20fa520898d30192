-- Steps of one CPort, and modules of their parts.
use Rattle.std.specs.Prelude.{ℕ, Option, Some, None, List}
use Rattle.gb_formats.specs.Devices.{Device, device_step}
use Rattle.gb_formats.specs.Module.{Module, ModulePort, if_on}
use Rattle.gb_formats.specs.ModuleSteps.{served_in}
use Rattle.gb_formats.specs.Results.{Step, Stirred}

-- a module with these CPorts
abbrev pub with_ports : List ℕ → List ModulePort → Module
with_ports manifest ports = record { manifest = manifest; ports = ports }

-- a CPort at a request to its device
abbrev pub port_step : ModulePort → ℕ → List ℕ → Step ModulePort
port_step port kind payload =
    let step = device_step port.device kind payload in record {
      after = record port { device = step.after };
      served = served_in port.state step.served;
    }

-- a CPort at a stir of its device
abbrev pub port_stir : ModulePort → Option (Stirred Device) → Option (Stirred ModulePort)
port_stir port None = None
port_stir port (Some stirred) = Some (record {
  after = record port { device = stirred.after };
  asks = if_on port.state stirred.asks;
})
