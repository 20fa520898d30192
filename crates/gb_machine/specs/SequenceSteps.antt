-- The steps of the application processor's sequences: a request each, which goes on where it is
-- answered with success. The first ten enumerate an interface, the next two connect a CPort, and
-- the last three close a connection.
use Rattle.std.specs.Prelude.{ℕ, ◌==◌, Bool, true, false, ◌&&◌, is_ok, if◌then◌else◌, Result, Ok}
use Rattle.std.specs.Prelude.{Err, List}
use Rattle.gb_base.specs.declared.steps.Purpose.{Purpose}
use Rattle.gb_base.specs.declared.steps.SequenceStep.{SequenceStep}
use Rattle.gb_base.specs.declared.steps.SequenceStep.TheVariants as steps
use Rattle.gb_formats.specs.ControlRecords.{ControlAsk, control_ask_payload, read_control_reply}
use Rattle.gb_formats.specs.Records.{PayloadFault}
use Rattle.gb_formats.specs.SvcRecords.{SvcAsk, SvcReply, read_svc_reply, svc_ask_payload}

-- a step of a sequence of a CPort of an interface
abbrev pub purpose : ℕ → ℕ → SequenceStep → Purpose
purpose i c step = record { intf = i; cport = c; step = step }

-- the same purpose at another step
abbrev pub at_step : SequenceStep → Purpose → Purpose
at_step step p = record p { step = step }

-- what the requests of a sequence speak of
pub record Target : Type 0 where
  pub intf : ℕ
  pub cport : ℕ
  pub ap : ℕ  -- the CPort of the application processor
  pub device : ℕ  -- the device id of the interface

-- The type of a step's request.
abbrev pub kind_of : SequenceStep → ℕ
kind_of steps.EnableVsys = 0x21
kind_of steps.EnableRefclk = 0x23
kind_of steps.EnableUnipro = 0x25
kind_of steps.Activate = 0x27
kind_of steps.GiveDevice = 0x03
kind_of steps.CreateRoute = 0x0b
kind_of steps.CreateControl = 0x07
kind_of steps.AskVersion = 0x01
kind_of steps.AskSize = 0x03
kind_of steps.AskManifest = 0x04
kind_of steps.CreateConnection = 0x07
kind_of steps.TellConnected = 0x05
kind_of steps.TellDisconnecting = 0x0c
kind_of steps.TellDisconnected = 0x06
kind_of steps.DestroyConnection = 0x08

-- The payload of a step's request. The application processor is interface 1 and has device id 1.
abbrev pub payload_of : SequenceStep → Target → List ℕ
payload_of steps.EnableVsys t = svc_ask_payload (SvcAsk.VsysEnable t.intf)
payload_of steps.EnableRefclk t = svc_ask_payload (SvcAsk.RefclkEnable t.intf)
payload_of steps.EnableUnipro t = svc_ask_payload (SvcAsk.UniproEnable t.intf)
payload_of steps.Activate t = svc_ask_payload (SvcAsk.IntfActivate t.intf)
payload_of steps.GiveDevice t = svc_ask_payload (SvcAsk.IntfDeviceId t.intf t.device)
payload_of steps.CreateRoute t = svc_ask_payload (SvcAsk.RouteCreate 1 1 t.intf t.device)
payload_of steps.CreateControl t = svc_ask_payload (SvcAsk.ConnCreate 1 t.ap t.intf t.cport 0 0)
payload_of steps.AskVersion t = control_ask_payload (ControlAsk.Version 0 1)
payload_of steps.AskSize t = control_ask_payload ControlAsk.GetManifestSize
payload_of steps.AskManifest t = control_ask_payload ControlAsk.GetManifest
payload_of steps.CreateConnection t = svc_ask_payload (SvcAsk.ConnCreate 1 t.ap t.intf t.cport 0 0)
payload_of steps.TellConnected t = control_ask_payload (ControlAsk.Connected t.cport)
payload_of steps.TellDisconnecting t = control_ask_payload (ControlAsk.Disconnecting t.cport)
payload_of steps.TellDisconnected t = control_ask_payload (ControlAsk.Disconnected t.cport)
payload_of steps.DestroyConnection t = svc_ask_payload (SvcAsk.ConnDestroy 1 t.ap t.intf t.cport)

-- A step's request goes to the module's Control CPort. The others go to the supervisory controller.
abbrev pub asks_control : SequenceStep → Bool
asks_control steps.AskVersion = true
asks_control steps.AskSize = true
asks_control steps.AskManifest = true
asks_control steps.TellConnected = true
asks_control steps.TellDisconnecting = true
asks_control steps.TellDisconnected = true
asks_control _ = false

-- A step belongs to an enumeration. The others belong to a connection.
abbrev pub is_enumeration : SequenceStep → Bool
is_enumeration steps.CreateConnection = false
is_enumeration steps.TellConnected = false
is_enumeration steps.TellDisconnecting = false
is_enumeration steps.TellDisconnected = false
is_enumeration steps.DestroyConnection = false
is_enumeration _ = true

-- A step asks to create or destroy a connection.
abbrev pub is_for_connection : SequenceStep → Bool
is_for_connection steps.CreateControl = true
is_for_connection steps.CreateConnection = true
is_for_connection steps.DestroyConnection = true
is_for_connection _ = false

-- an answer of the supervisory controller with which a sequence goes on: power is on, and an
-- interface is active with a module of type 3 (Greybus)
abbrev pub is_svc_reply : Result SvcReply PayloadFault → Bool
is_svc_reply (Ok (SvcReply.VsysEnable result)) = result == 0
is_svc_reply (Ok (SvcReply.RefclkEnable result)) = result == 0
is_svc_reply (Ok (SvcReply.UniproEnable result)) = result == 0
is_svc_reply (Ok (SvcReply.IntfActivate status kind)) = status == 0 && kind == 3
is_svc_reply (Ok _) = true
is_svc_reply (Err fault) = false

-- The payload of an answer of success with which a step goes on.
abbrev pub is_reply : SequenceStep → List ℕ → Bool
is_reply step payload =
    if asks_control step then is_ok (read_control_reply (kind_of step) payload)
    else is_svc_reply (read_svc_reply (kind_of step) payload)
