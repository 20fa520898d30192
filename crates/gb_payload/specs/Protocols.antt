-- The records of each direction of the protocols.
use Rattle.gb_formats.specs.ControlRecords.{ControlAsk, control_ask_kind, control_ask_payload}
use Rattle.gb_formats.specs.ControlRecords.{read_control_ask, ControlReply, control_reply_kind}
use Rattle.gb_formats.specs.ControlRecords.{control_reply_payload, read_control_reply}
use Rattle.gb_formats.specs.SvcRecords.{SvcAsk, svc_ask_kind, svc_ask_payload, read_svc_ask}
use Rattle.gb_formats.specs.SvcRecords.{SvcReply, svc_reply_kind, svc_reply_payload, read_svc_reply}
use Rattle.gb_payload.specs.Meaning.{Format}

-- requests of the SVC protocol
abbrev pub svc_asks : Format SvcAsk
svc_asks = record { read = read_svc_ask; kind = svc_ask_kind; payload = svc_ask_payload }

-- responses of the SVC protocol
abbrev pub svc_replies : Format SvcReply
svc_replies = record { read = read_svc_reply; kind = svc_reply_kind; payload = svc_reply_payload }

-- requests of the Control protocol
abbrev pub control_asks : Format ControlAsk
control_asks =
    record { read = read_control_ask; kind = control_ask_kind; payload = control_ask_payload }

-- responses of the Control protocol
abbrev pub control_replies : Format ControlReply
control_replies =
    record { read = read_control_reply; kind = control_reply_kind; payload = control_reply_payload }
