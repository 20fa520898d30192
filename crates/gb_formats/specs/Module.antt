-- Modules: the bytes of a manifest, and CPorts with a device each.
use Rattle.std.specs.Prelude.{ℕ, ◌==◌, Bool, true, false, if◌then◌else◌, Option, Some, None, Result}
use Rattle.std.specs.Prelude.{Ok, Err, List, [], ◌∷◌, find}
use Rattle.gb_base.specs.declared.event.Kind.{Kind}
use Rattle.gb_base.specs.declared.served.OwnAsk.{OwnAsk}
use Rattle.gb_formats.specs.Descriptors.{Descriptor}
use Rattle.gb_formats.specs.Devices.{Device, device_of}
use Rattle.gb_formats.specs.Kinds.{kind_cports, kind_manifest}
use Rattle.gb_formats.specs.Manifest.{Manifest, check_answer}
use Rattle.gb_formats.specs.ManifestRules.{Refused}
use Rattle.gb_formats.specs.ManifestSpec.{CportSpec}

-- The state of a module's CPort. A quiet one serves, but starts no request.
pub data CportState : Type 0 where
  Off : CportState
  On : CportState
  Quiet : CportState

-- a CPort with a device
pub record ModulePort : Type 0 where
  pub number : ℕ
  pub protocol : ℕ
  pub state : CportState
  pub device : Device

-- A module: the bytes of its manifest, and its CPorts with devices.
pub record Module : Type 0 where
  pub manifest : List ℕ
  pub ports : List ModulePort

-- ---- modules of a kind

-- a CPort as it is first: off, with its device in its first state
abbrev pub first_port : ℕ → ℕ → Device → ModulePort
first_port number protocol device =
    record { number = number; protocol = protocol; state = Off; device = device }

-- a CPort in front of others, where there is a device for its protocol
abbrev pub port_onto : ℕ → ℕ → Option Device → List ModulePort → List ModulePort
port_onto number protocol None ports = ports
port_onto number protocol (Some device) ports = first_port number protocol device ∷ ports

-- the CPorts of a kind
abbrev pub ports_of : List CportSpec → List ModulePort
ports_of [] = []
ports_of (c ∷ cs) = port_onto c.id c.protocol (device_of c.protocol) (ports_of cs)

-- A module of a kind.
abbrev pub module_of_kind : Kind → Module
module_of_kind kind =
    record { manifest = kind_manifest kind; ports = ports_of (kind_cports kind) }

-- ---- modules of a raw manifest

-- the device of a CPort outside bundle 0
abbrev pub device_outside : ℕ → ℕ → Option Device
device_outside bundle protocol = if bundle == 0 then None else device_of protocol

-- the CPorts outside bundle 0 whose protocol has a device
abbrev pub ports_in : List Descriptor → List ModulePort
ports_in [] = []
ports_in (Descriptor.Cport id bundle protocol ∷ ds) =
    port_onto id protocol (device_outside bundle protocol) (ports_in ds)
ports_in (_ ∷ ds) = ports_in ds

-- the CPorts of a manifest that is accepted; of one that isn't, none
abbrev pub raw_ports : Result Manifest Refused → List ModulePort
raw_ports (Ok m) = ports_in m.descriptors
raw_ports (Err why) = []

-- A module with these bytes as its manifest.
abbrev pub module_raw : List ℕ → Module
module_raw bytes = record { manifest = bytes; ports = raw_ports (check_answer bytes) }

-- ---- CPorts

-- whether a CPort has this number
abbrev pub is_port : ℕ → ModulePort → Bool
is_port c port = port.number == c

-- the CPort with this number
abbrev pub port_at : Module → ℕ → Option ModulePort
port_at m c = find (is_port c) m.ports

-- the CPorts with the first of this number changed
abbrev pub with_port : ModulePort → List ModulePort → List ModulePort
with_port new [] = []
with_port new (port ∷ ports) =
    let later = with_port new ports in
    if port.number == new.number then new ∷ ports else port ∷ later

-- a module with one CPort changed
abbrev pub with_changed : Module → ModulePort → Module
with_changed m new = record m { ports = with_port new m.ports }

-- the state of a CPort, off where there is no device
abbrev pub state_of : Option ModulePort → CportState
state_of None = Off
state_of (Some port) = port.state

-- The state of the CPort with this number.
abbrev pub cport_state : Module → ℕ → CportState
cport_state m c = state_of (port_at m c)

-- a CPort that is on
abbrev pub is_on : CportState → Bool
is_on On = true
is_on _ = false

-- requests of the module's own are left out where the CPort isn't on
abbrev pub if_on : CportState → List OwnAsk → List OwnAsk
if_on state asks = if is_on state then asks else []
