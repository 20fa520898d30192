-- The records that values of the code stand for.
use Rattle.gb_formats.specs.ControlRecords as control
use Rattle.gb_formats.specs.SvcRecords as svc
use Rattle.gb_payload.specs.declared.svc_ask.SvcAsk.{SvcAsk}
use Rattle.gb_payload.specs.declared.svc_ask.SvcAsk.TheVariants as svc_ask_is
use Rattle.gb_payload.specs.declared.svc_reply.SvcReply.{SvcReply}
use Rattle.gb_payload.specs.declared.svc_reply.SvcReply.TheVariants as svc_reply_is
use Rattle.gb_payload.specs.declared.control_ask.ControlAsk.{ControlAsk}
use Rattle.gb_payload.specs.declared.control_ask.ControlAsk.TheVariants as control_ask_is
use Rattle.gb_payload.specs.declared.control_reply.ControlReply.{ControlReply}
use Rattle.gb_payload.specs.declared.control_reply.ControlReply.TheVariants as control_reply_is

-- a request of the SVC protocol
abbrev pub svc_ask_of : SvcAsk → svc.SvcAsk
svc_ask_of (svc_ask_is.IntfDeviceId intf device) = svc.SvcAsk.IntfDeviceId intf device
svc_ask_of (svc_ask_is.ConnCreate intf1 cport1 intf2 cport2 tc flags) =
    svc.SvcAsk.ConnCreate intf1 cport1 intf2 cport2 tc flags
svc_ask_of (svc_ask_is.ConnDestroy intf1 cport1 intf2 cport2) =
    svc.SvcAsk.ConnDestroy intf1 cport1 intf2 cport2
svc_ask_of (svc_ask_is.RouteCreate intf1 dev1 intf2 dev2) =
    svc.SvcAsk.RouteCreate intf1 dev1 intf2 dev2
svc_ask_of (svc_ask_is.RouteDestroy intf1 intf2) = svc.SvcAsk.RouteDestroy intf1 intf2
svc_ask_of svc_ask_is.Ping = svc.SvcAsk.Ping
svc_ask_of (svc_ask_is.VsysEnable intf) = svc.SvcAsk.VsysEnable intf
svc_ask_of (svc_ask_is.RefclkEnable intf) = svc.SvcAsk.RefclkEnable intf
svc_ask_of (svc_ask_is.UniproEnable intf) = svc.SvcAsk.UniproEnable intf
svc_ask_of (svc_ask_is.IntfActivate intf) = svc.SvcAsk.IntfActivate intf
svc_ask_of (svc_ask_is.ProtocolVersion major minor) = svc.SvcAsk.ProtocolVersion major minor
svc_ask_of (svc_ask_is.Hello endo_id interface_id) = svc.SvcAsk.Hello endo_id interface_id
svc_ask_of (svc_ask_is.ModuleInserted primary count flags) =
    svc.SvcAsk.ModuleInserted primary count flags
svc_ask_of (svc_ask_is.ModuleRemoved primary) = svc.SvcAsk.ModuleRemoved primary

-- a response of the SVC protocol
abbrev pub svc_reply_of : SvcReply → svc.SvcReply
svc_reply_of svc_reply_is.IntfDeviceId = svc.SvcReply.IntfDeviceId
svc_reply_of svc_reply_is.ConnCreate = svc.SvcReply.ConnCreate
svc_reply_of svc_reply_is.ConnDestroy = svc.SvcReply.ConnDestroy
svc_reply_of svc_reply_is.RouteCreate = svc.SvcReply.RouteCreate
svc_reply_of svc_reply_is.RouteDestroy = svc.SvcReply.RouteDestroy
svc_reply_of svc_reply_is.Ping = svc.SvcReply.Ping
svc_reply_of (svc_reply_is.VsysEnable result) = svc.SvcReply.VsysEnable result
svc_reply_of (svc_reply_is.RefclkEnable result) = svc.SvcReply.RefclkEnable result
svc_reply_of (svc_reply_is.UniproEnable result) = svc.SvcReply.UniproEnable result
svc_reply_of (svc_reply_is.IntfActivate status kind) = svc.SvcReply.IntfActivate status kind
svc_reply_of (svc_reply_is.ProtocolVersion major minor) = svc.SvcReply.ProtocolVersion major minor
svc_reply_of svc_reply_is.Hello = svc.SvcReply.Hello
svc_reply_of svc_reply_is.ModuleInserted = svc.SvcReply.ModuleInserted
svc_reply_of svc_reply_is.ModuleRemoved = svc.SvcReply.ModuleRemoved

-- a request of the Control protocol
abbrev pub control_ask_of : ControlAsk → control.ControlAsk
control_ask_of (control_ask_is.Version major minor) = control.ControlAsk.Version major minor
control_ask_of control_ask_is.GetManifestSize = control.ControlAsk.GetManifestSize
control_ask_of control_ask_is.GetManifest = control.ControlAsk.GetManifest
control_ask_of (control_ask_is.Connected cport) = control.ControlAsk.Connected cport
control_ask_of (control_ask_is.Disconnected cport) = control.ControlAsk.Disconnected cport
control_ask_of (control_ask_is.Disconnecting cport) = control.ControlAsk.Disconnecting cport

-- a response of the Control protocol
abbrev pub control_reply_of : ControlReply → control.ControlReply
control_reply_of (control_reply_is.Version major minor) = control.ControlReply.Version major minor
control_reply_of (control_reply_is.GetManifestSize size) = control.ControlReply.GetManifestSize size
control_reply_of (control_reply_is.GetManifest bytes) = control.ControlReply.GetManifest bytes.now
control_reply_of control_reply_is.Connected = control.ControlReply.Connected
control_reply_of control_reply_is.Disconnected = control.ControlReply.Disconnected
control_reply_of control_reply_is.Disconnecting = control.ControlReply.Disconnecting
