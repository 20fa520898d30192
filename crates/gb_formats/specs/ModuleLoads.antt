-- The downloads of a module's firmware devices.
use Rattle.std.specs.Prelude.{ℕ, if◌then◌else◌, Option, Some, None, option_map}
use Rattle.std.specs.Prelude.{option_and_then, List, []}
use Rattle.gb_base.specs.declared.download.Next.{Next}
use Rattle.gb_base.specs.declared.download.Next.TheVariants as next
use Rattle.gb_base.specs.declared.outcome.Outcome.{Outcome}
use Rattle.gb_formats.specs.Devices.{Device, Firmware}
use Rattle.gb_formats.specs.Images.{Image}
use Rattle.gb_formats.specs.Loader.{Loaded, Loader, loader_begun, loader_ended, loader_failed}
use Rattle.gb_formats.specs.Loader.{loader_tag}
use Rattle.gb_formats.specs.Module.{CportState, Module, ModulePort, is_on, port_at, with_changed}

-- the loader of a device, where it is a firmware device
abbrev pub loader_of : Device → Option Loader
loader_of (Firmware l) = Some l
loader_of _ = None

-- the loader of a CPort
abbrev pub port_loader : Option ModulePort → Option Loader
port_loader None = None
port_loader (Some port) = loader_of port.device

-- The loader at a CPort, None where there is no firmware device.
abbrev pub loader_at : Module → ℕ → Option Loader
loader_at m c = port_loader (port_at m c)

-- The image that a firmware device at a CPort keeps.
abbrev pub kept_at : Module → ℕ → Option Image
kept_at m c = option_and_then (λ l. l.kept) (loader_at m c)

-- ---- a load, and a failure

-- a device with its loader changed, where it is a firmware device
abbrev pub with_loader : (Loader → Loader) → Device → Device
with_loader change (Firmware l) = Firmware (change l)
with_loader change device = device

-- a module with the loader of a CPort changed, where there is one
abbrev pub loader_changed : (Loader → Loader) → Module → Option ModulePort → Module
loader_changed change m None = m
loader_changed change m (Some port) =
    with_changed m (record port { device = with_loader change port.device })

-- A module whose firmware device at a CPort begins to download the image of a tag.
abbrev pub module_load : Module → ℕ → List ℕ → Module
module_load m c tag = loader_changed (loader_begun tag) m (port_at m c)

-- A module whose firmware device at a CPort fails to download.
abbrev pub module_fail : Module → ℕ → Module
module_fail m c = loader_changed loader_failed m (port_at m c)

-- the tag of the download that a loader runs, no byte where there is none
abbrev pub running_tag : Option Loader → List ℕ
running_tag None = []
running_tag (Some l) = loader_tag l

-- The tag of the download that runs at a CPort, no byte where none runs.
abbrev pub tag_at : Module → ℕ → List ℕ
tag_at m c = running_tag (loader_at m c)

-- ---- the end of the request that a download waits for

-- What a module is then, and what follows.
pub record ModuleLoaded : Type 0 where
  pub after : Module
  pub next : Next

-- a failure takes the place of a request
abbrev pub unasked : Next → Loaded → Loaded
unasked (next.Ask own) t =
    record { after = loader_failed t.after; next = next.Failed (loader_tag t.after) }
unasked _ t = t

-- a request is made only where the CPort is on
abbrev pub if_may_ask : CportState → Loaded → Loaded
if_may_ask state t = if is_on state then t else unasked t.next t

-- the module with its loader as it is then
abbrev pub port_loaded : Module → ModulePort → Loaded → ModuleLoaded
port_loaded m port t = record {
  after = with_changed m (record port { device = Firmware t.after });
  next = t.next;
}

-- what follows at a CPort with this device
abbrev pub device_ended : Module → ModulePort → Device → Outcome → Option ModuleLoaded
device_ended m port (Firmware l) how =
    option_map (λ t. port_loaded m port (if_may_ask port.state t)) (loader_ended how l)
device_ended m port _ how = None

-- what follows at a CPort
abbrev pub port_ended : Module → Option ModulePort → Outcome → Option ModuleLoaded
port_ended m None how = None
port_ended m (Some port) how = device_ended m port port.device how

-- What follows at a CPort whose request ended, None where no download runs there.
abbrev pub module_ended : Module → ℕ → Outcome → Option ModuleLoaded
module_ended m c how = port_ended m (port_at m c) how
