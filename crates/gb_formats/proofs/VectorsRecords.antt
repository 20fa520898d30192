-- Records of the Control and SVC protocols: one for each row, both ways, and some mismatches.
use Rattle.std.proofs.Common.{◌≡◌, ℕ, List, [], ◌∷◌, refl}
use Rattle.std.specs.Prelude.{Ok, Err, map}
use Rattle.gb_formats.specs.Records.{PayloadFault}
use Rattle.gb_formats.specs.SvcRecords.{SvcAsk, read_svc_ask, svc_ask_kind, svc_ask_payload}
use Rattle.gb_formats.specs.SvcRecords.{SvcReply, read_svc_reply, svc_reply_kind, svc_reply_payload}
use Rattle.gb_formats.specs.ControlRecords.{ControlAsk, read_control_ask, control_ask_kind}
use Rattle.gb_formats.specs.ControlRecords.{control_ask_payload, ControlReply, read_control_reply}
use Rattle.gb_formats.specs.ControlRecords.{control_reply_kind, control_reply_payload}

-- types, payloads and records of the SVC protocol
abbrev pub svc_ask_rows : List (ℕ × List ℕ × SvcAsk)
svc_ask_rows =
    (0x03, 2 ∷ 2 ∷ [], SvcAsk.IntfDeviceId 2 2)
    ∷ (0x07, 1 ∷ 1 ∷ 0 ∷ 2 ∷ 0 ∷ 0 ∷ 0 ∷ 0 ∷ [], SvcAsk.ConnCreate 1 1 2 0 0 0)
    ∷ (0x07, 1 ∷ 255 ∷ 15 ∷ 31 ∷ 52 ∷ 18 ∷ 5 ∷ 7 ∷ [], SvcAsk.ConnCreate 1 4095 31 4660 5 7)
    ∷ (0x08, 1 ∷ 1 ∷ 0 ∷ 2 ∷ 3 ∷ 0 ∷ [], SvcAsk.ConnDestroy 1 1 2 3)
    ∷ (0x0b, 1 ∷ 1 ∷ 2 ∷ 2 ∷ [], SvcAsk.RouteCreate 1 1 2 2)
    ∷ (0x0c, 1 ∷ 2 ∷ [], SvcAsk.RouteDestroy 1 2)
    ∷ (0x13, [], SvcAsk.Ping)
    ∷ (0x21, 2 ∷ [], SvcAsk.VsysEnable 2)
    ∷ (0x23, 3 ∷ [], SvcAsk.RefclkEnable 3)
    ∷ (0x25, 4 ∷ [], SvcAsk.UniproEnable 4)
    ∷ (0x27, 5 ∷ [], SvcAsk.IntfActivate 5)
    ∷ (0x01, 0 ∷ 1 ∷ [], SvcAsk.ProtocolVersion 0 1)
    ∷ (0x02, 1 ∷ 0 ∷ 1 ∷ [], SvcAsk.Hello 1 1)
    ∷ (0x1f, 2 ∷ 1 ∷ 0 ∷ 0 ∷ [], SvcAsk.ModuleInserted 2 1 0)
    ∷ (0x20, 31 ∷ [], SvcAsk.ModuleRemoved 31)
    ∷ []

pub svc_ask_rows-read : map (λ row. read_svc_ask row.0 row.1) svc_ask_rows
    ≡ map (λ row. Ok row.2) svc_ask_rows
svc_ask_rows-read = refl

pub svc_ask_rows-kind : map (λ row. svc_ask_kind row.2) svc_ask_rows
    ≡ map (λ row. row.0) svc_ask_rows
svc_ask_rows-kind = refl

pub svc_ask_rows-payload : map (λ row. svc_ask_payload row.2) svc_ask_rows
    ≡ map (λ row. row.1) svc_ask_rows
svc_ask_rows-payload = refl

-- payloads that are no record of their type, and the place where they part
abbrev pub svc_ask_faults : List (ℕ × List ℕ × PayloadFault)
svc_ask_faults =
    (0x44, [], PayloadFault.UnknownKind)
    ∷ (0x07, 1 ∷ 1 ∷ 0 ∷ 2 ∷ 0 ∷ 0 ∷ 0 ∷ [], PayloadFault.Mismatch 7)
    ∷ (0x07, 1 ∷ 1 ∷ 0 ∷ 2 ∷ 0 ∷ 0 ∷ 0 ∷ 0 ∷ 0 ∷ [], PayloadFault.Mismatch 9)
    ∷ (0x07, 1 ∷ 1 ∷ 0 ∷ 2 ∷ 0 ∷ 0 ∷ 0 ∷ 0 ∷ 0 ∷ 0 ∷ 0 ∷ [], PayloadFault.Mismatch 9)
    ∷ (0x13, 0 ∷ [], PayloadFault.Mismatch 1)
    ∷ (0x13, 0 ∷ 0 ∷ [], PayloadFault.Mismatch 1)
    ∷ (0x21, [], PayloadFault.Mismatch 0)
    ∷ []

pub svc_ask_faults-read : map (λ row. read_svc_ask row.0 row.1) svc_ask_faults
    ≡ map (λ row. Err row.2) svc_ask_faults
svc_ask_faults-read = refl

-- types, payloads and records of the SVC protocol
abbrev pub svc_reply_rows : List (ℕ × List ℕ × SvcReply)
svc_reply_rows =
    (0x03, [], SvcReply.IntfDeviceId)
    ∷ (0x07, [], SvcReply.ConnCreate)
    ∷ (0x08, [], SvcReply.ConnDestroy)
    ∷ (0x0b, [], SvcReply.RouteCreate)
    ∷ (0x0c, [], SvcReply.RouteDestroy)
    ∷ (0x13, [], SvcReply.Ping)
    ∷ (0x21, 0 ∷ [], SvcReply.VsysEnable 0)
    ∷ (0x23, 1 ∷ [], SvcReply.RefclkEnable 1)
    ∷ (0x25, 2 ∷ [], SvcReply.UniproEnable 2)
    ∷ (0x27, 0 ∷ 3 ∷ [], SvcReply.IntfActivate 0 3)
    ∷ (0x01, 0 ∷ 1 ∷ [], SvcReply.ProtocolVersion 0 1)
    ∷ (0x02, [], SvcReply.Hello)
    ∷ (0x1f, [], SvcReply.ModuleInserted)
    ∷ (0x20, [], SvcReply.ModuleRemoved)
    ∷ []

pub svc_reply_rows-read : map (λ row. read_svc_reply row.0 row.1) svc_reply_rows
    ≡ map (λ row. Ok row.2) svc_reply_rows
svc_reply_rows-read = refl

pub svc_reply_rows-kind : map (λ row. svc_reply_kind row.2) svc_reply_rows
    ≡ map (λ row. row.0) svc_reply_rows
svc_reply_rows-kind = refl

pub svc_reply_rows-payload : map (λ row. svc_reply_payload row.2) svc_reply_rows
    ≡ map (λ row. row.1) svc_reply_rows
svc_reply_rows-payload = refl

-- payloads that are no record of their type, and the place where they part
abbrev pub svc_reply_faults : List (ℕ × List ℕ × PayloadFault)
svc_reply_faults =
    (0x44, [], PayloadFault.UnknownKind)
    ∷ (0x27, 0 ∷ [], PayloadFault.Mismatch 1)
    ∷ (0x27, 0 ∷ 3 ∷ 0 ∷ 0 ∷ [], PayloadFault.Mismatch 3)
    ∷ (0x13, 0 ∷ [], PayloadFault.Mismatch 1)
    ∷ []

pub svc_reply_faults-read : map (λ row. read_svc_reply row.0 row.1) svc_reply_faults
    ≡ map (λ row. Err row.2) svc_reply_faults
svc_reply_faults-read = refl

-- types, payloads and records of the Control protocol
abbrev pub control_ask_rows : List (ℕ × List ℕ × ControlAsk)
control_ask_rows =
    (0x01, 0 ∷ 1 ∷ [], ControlAsk.Version 0 1)
    ∷ (0x03, [], ControlAsk.GetManifestSize)
    ∷ (0x04, [], ControlAsk.GetManifest)
    ∷ (0x05, 1 ∷ 0 ∷ [], ControlAsk.Connected 1)
    ∷ (0x06, 255 ∷ 15 ∷ [], ControlAsk.Disconnected 4095)
    ∷ (0x0c, 0 ∷ 1 ∷ [], ControlAsk.Disconnecting 256)
    ∷ []

pub control_ask_rows-read : map (λ row. read_control_ask row.0 row.1) control_ask_rows
    ≡ map (λ row. Ok row.2) control_ask_rows
control_ask_rows-read = refl

pub control_ask_rows-kind : map (λ row. control_ask_kind row.2) control_ask_rows
    ≡ map (λ row. row.0) control_ask_rows
control_ask_rows-kind = refl

pub control_ask_rows-payload : map (λ row. control_ask_payload row.2) control_ask_rows
    ≡ map (λ row. row.1) control_ask_rows
control_ask_rows-payload = refl

-- payloads that are no record of their type, and the place where they part
abbrev pub control_ask_faults : List (ℕ × List ℕ × PayloadFault)
control_ask_faults =
    (0x02, [], PayloadFault.UnknownKind)
    ∷ (0x05, 1 ∷ [], PayloadFault.Mismatch 1)
    ∷ (0x05, 1 ∷ 0 ∷ 0 ∷ [], PayloadFault.Mismatch 3)
    ∷ []

pub control_ask_faults-read : map (λ row. read_control_ask row.0 row.1) control_ask_faults
    ≡ map (λ row. Err row.2) control_ask_faults
control_ask_faults-read = refl

-- types, payloads and records of the Control protocol
abbrev pub control_reply_rows : List (ℕ × List ℕ × ControlReply)
control_reply_rows =
    (0x01, 0 ∷ 1 ∷ [], ControlReply.Version 0 1)
    ∷ (0x03, 72 ∷ 0 ∷ [], ControlReply.GetManifestSize 72)
    ∷ (0x04, 72 ∷ 0 ∷ 0 ∷ [], ControlReply.GetManifest (72 ∷ 0 ∷ 0 ∷ []))
    ∷ (0x05, [], ControlReply.Connected)
    ∷ (0x06, [], ControlReply.Disconnected)
    ∷ (0x0c, [], ControlReply.Disconnecting)
    ∷ []

pub control_reply_rows-read : map (λ row. read_control_reply row.0 row.1) control_reply_rows
    ≡ map (λ row. Ok row.2) control_reply_rows
control_reply_rows-read = refl

pub control_reply_rows-kind : map (λ row. control_reply_kind row.2) control_reply_rows
    ≡ map (λ row. row.0) control_reply_rows
control_reply_rows-kind = refl

pub control_reply_rows-payload : map (λ row. control_reply_payload row.2) control_reply_rows
    ≡ map (λ row. row.1) control_reply_rows
control_reply_rows-payload = refl

-- payloads that are no record of their type, and the place where they part
abbrev pub control_reply_faults : List (ℕ × List ℕ × PayloadFault)
control_reply_faults =
    (0x02, [], PayloadFault.UnknownKind)
    ∷ (0x03, 72 ∷ [], PayloadFault.Mismatch 1)
    ∷ (0x05, 0 ∷ [], PayloadFault.Mismatch 1)
    ∷ []

pub control_reply_faults-read : map (λ row. read_control_reply row.0 row.1) control_reply_faults
    ≡ map (λ row. Err row.2) control_reply_faults
control_reply_faults-read = refl
