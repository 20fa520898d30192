-- The Control responder of a module: its version, its manifest, and the states of its CPorts
-- (Greybus Specification, "Control Protocol").
use Rattle.std.specs.Prelude.{ℕ, Bool, true, false, if◌then◌else◌, Option, Some, None, Result, Ok}
use Rattle.std.specs.Prelude.{Err, List, [], length}
use Rattle.gb_formats.specs.ControlRecords.{ControlAsk, ControlReply, read_control_ask}
use Rattle.gb_formats.specs.ControlRecords.{control_reply_payload}
use Rattle.gb_formats.specs.Devices.{restarted_device}
use Rattle.gb_formats.specs.Module.{CportState, Off, On, Quiet, Module, ModulePort, is_on, port_at}
use Rattle.gb_formats.specs.Module.{with_changed}
use Rattle.gb_formats.specs.Records.{PayloadFault}
use Rattle.gb_formats.specs.Results.{Step, tells, refuses, answer_of, fault_result, invalid}
use Rattle.gb_formats.specs.Results.{nonexistent}

-- CONNECTED wants a CPort that is off
abbrev pub is_off : CportState → Bool
is_off Off = true
is_off _ = false

-- DISCONNECTED wants a CPort that is quiet
abbrev pub is_quiet : CportState → Bool
is_quiet Quiet = true
is_quiet _ = false

-- CONNECTED puts the device in its first state and the CPort on
abbrev pub turned_on : ModulePort → ModulePort
turned_on port = record port { state = On; device = restarted_device port.device }

-- DISCONNECTING makes the CPort quiet
abbrev pub made_quiet : ModulePort → ModulePort
made_quiet port = record port { state = Quiet }

-- DISCONNECTED puts the CPort off
abbrev pub turned_off : ModulePort → ModulePort
turned_off port = record port { state = Off }

-- a change of a CPort that is NONEXISTENT without a device, and INVALID in another state
abbrev pub turn_step : Module → Option ModulePort → (CportState → Bool)
    → (ModulePort → ModulePort) → Step Module
turn_step m None wanted change = refuses m nonexistent
turn_step m (Some port) wanted change =
    if wanted port.state
    then record { after = with_changed m (change port); served = answer_of [] }
    else refuses m invalid

-- the module stays, and answers this response
abbrev pub replies : Module → ControlReply → Step Module
replies m reply = tells m (control_reply_payload reply)

-- The Control table: what each request does.
abbrev pub control_asked : Module → ControlAsk → Step Module
control_asked m (ControlAsk.Version major minor) = replies m (ControlReply.Version 0 1)
control_asked m ControlAsk.GetManifestSize =
    replies m (ControlReply.GetManifestSize (length m.manifest))
control_asked m ControlAsk.GetManifest = replies m (ControlReply.GetManifest m.manifest)
control_asked m (ControlAsk.Connected c) = turn_step m (port_at m c) is_off turned_on
control_asked m (ControlAsk.Disconnected c) = turn_step m (port_at m c) is_quiet turned_off
control_asked m (ControlAsk.Disconnecting c) = turn_step m (port_at m c) is_on made_quiet

-- a request by its payload
abbrev pub control_read : Module → Result ControlAsk PayloadFault → Step Module
control_read m (Ok ask) = control_asked m ask
control_read m (Err fault) = refuses m (fault_result fault)

-- The Control responder's step.
abbrev pub control_step : Module → ℕ → List ℕ → Step Module
control_step m kind payload = control_read m (read_control_ask kind payload)
