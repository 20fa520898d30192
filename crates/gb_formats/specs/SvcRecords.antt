-- Records of the SVC protocol (Greybus Specification, "SVC Protocol"; in Linux's
-- greybus_protocols.h `GB_SVC_TYPE_..`): what the application processor asks, then what
-- the SVC asks.
use Rattle.std.specs.Prelude.{ℕ, Result, List, [], ◌∷◌, ◌++◌}
use Rattle.gb_formats.specs.Bytes.{le16}
use Rattle.gb_formats.specs.Records.{PayloadFault, Row, by_far, row0, row1, row2, row3, row4, row6}
use Rattle.gb_formats.specs.Records.{u8, u16, read_ap_ask, read_far_ask, read_table}

-- the payloads of requests
pub data SvcAsk : Type 0 where
  IntfDeviceId : (intf device : ℕ) → SvcAsk
  ConnCreate : (intf1 cport1 intf2 cport2 tc flags : ℕ) → SvcAsk
  ConnDestroy : (intf1 cport1 intf2 cport2 : ℕ) → SvcAsk
  RouteCreate : (intf1 dev1 intf2 dev2 : ℕ) → SvcAsk
  RouteDestroy : (intf1 intf2 : ℕ) → SvcAsk
  Ping : SvcAsk
  VsysEnable : (intf : ℕ) → SvcAsk
  RefclkEnable : (intf : ℕ) → SvcAsk
  UniproEnable : (intf : ℕ) → SvcAsk
  IntfActivate : (intf : ℕ) → SvcAsk
  ProtocolVersion : (major minor : ℕ) → SvcAsk
  Hello : (endo_id interface_id : ℕ) → SvcAsk
  ModuleInserted : (primary count flags : ℕ) → SvcAsk
  ModuleRemoved : (primary : ℕ) → SvcAsk

-- the payloads of responses
pub data SvcReply : Type 0 where
  IntfDeviceId : SvcReply
  ConnCreate : SvcReply
  ConnDestroy : SvcReply
  RouteCreate : SvcReply
  RouteDestroy : SvcReply
  Ping : SvcReply
  VsysEnable : (result : ℕ) → SvcReply
  RefclkEnable : (result : ℕ) → SvcReply
  UniproEnable : (result : ℕ) → SvcReply
  IntfActivate : (status kind : ℕ) → SvcReply
  ProtocolVersion : (major minor : ℕ) → SvcReply
  Hello : SvcReply
  ModuleInserted : SvcReply
  ModuleRemoved : SvcReply

-- the rows of requests
abbrev pub svc_asks : List (Row SvcAsk)
svc_asks =
    row2 0x03 u8 u8 SvcAsk.IntfDeviceId
    ∷ row6 0x07 u8 u16 u8 u16 u8 u8 SvcAsk.ConnCreate
    ∷ row4 0x08 u8 u16 u8 u16 SvcAsk.ConnDestroy
    ∷ row4 0x0b u8 u8 u8 u8 SvcAsk.RouteCreate
    ∷ row2 0x0c u8 u8 SvcAsk.RouteDestroy
    ∷ row0 0x13 SvcAsk.Ping
    ∷ row1 0x21 u8 SvcAsk.VsysEnable
    ∷ row1 0x23 u8 SvcAsk.RefclkEnable
    ∷ row1 0x25 u8 SvcAsk.UniproEnable
    ∷ row1 0x27 u8 SvcAsk.IntfActivate
    ∷ by_far (row2 0x01 u8 u8 SvcAsk.ProtocolVersion)
    ∷ by_far (row2 0x02 u16 u8 SvcAsk.Hello)
    ∷ by_far (row3 0x1f u8 u8 u16 SvcAsk.ModuleInserted)
    ∷ by_far (row1 0x20 u8 SvcAsk.ModuleRemoved)
    ∷ []

-- the rows of responses
abbrev pub svc_replies : List (Row SvcReply)
svc_replies =
    row0 0x03 SvcReply.IntfDeviceId
    ∷ row0 0x07 SvcReply.ConnCreate
    ∷ row0 0x08 SvcReply.ConnDestroy
    ∷ row0 0x0b SvcReply.RouteCreate
    ∷ row0 0x0c SvcReply.RouteDestroy
    ∷ row0 0x13 SvcReply.Ping
    ∷ row1 0x21 u8 SvcReply.VsysEnable
    ∷ row1 0x23 u8 SvcReply.RefclkEnable
    ∷ row1 0x25 u8 SvcReply.UniproEnable
    ∷ row2 0x27 u8 u8 SvcReply.IntfActivate
    ∷ by_far (row2 0x01 u8 u8 SvcReply.ProtocolVersion)
    ∷ by_far (row0 0x02 SvcReply.Hello)
    ∷ by_far (row0 0x1f SvcReply.ModuleInserted)
    ∷ by_far (row0 0x20 SvcReply.ModuleRemoved)
    ∷ []

-- the request that a payload is, whoever makes it
abbrev pub read_svc_ask : ℕ → List ℕ → Result SvcAsk PayloadFault
read_svc_ask kind payload = read_table svc_asks kind payload

-- the request of the application processor that a payload is
abbrev pub read_svc_ask_of_ap : ℕ → List ℕ → Result SvcAsk PayloadFault
read_svc_ask_of_ap kind payload = read_ap_ask svc_asks kind payload

-- the request of the supervisory controller that a payload is
abbrev pub read_svc_ask_of_svc : ℕ → List ℕ → Result SvcAsk PayloadFault
read_svc_ask_of_svc kind payload = read_far_ask svc_asks kind payload

-- the response that a payload is; the type is that of the request
abbrev pub read_svc_reply : ℕ → List ℕ → Result SvcReply PayloadFault
read_svc_reply kind payload = read_table svc_replies kind payload

-- the type of a request
abbrev pub svc_ask_kind : SvcAsk → ℕ
svc_ask_kind (SvcAsk.IntfDeviceId intf device) = 0x03
svc_ask_kind (SvcAsk.ConnCreate intf1 cport1 intf2 cport2 tc flags) = 0x07
svc_ask_kind (SvcAsk.ConnDestroy intf1 cport1 intf2 cport2) = 0x08
svc_ask_kind (SvcAsk.RouteCreate intf1 dev1 intf2 dev2) = 0x0b
svc_ask_kind (SvcAsk.RouteDestroy intf1 intf2) = 0x0c
svc_ask_kind SvcAsk.Ping = 0x13
svc_ask_kind (SvcAsk.VsysEnable intf) = 0x21
svc_ask_kind (SvcAsk.RefclkEnable intf) = 0x23
svc_ask_kind (SvcAsk.UniproEnable intf) = 0x25
svc_ask_kind (SvcAsk.IntfActivate intf) = 0x27
svc_ask_kind (SvcAsk.ProtocolVersion major minor) = 0x01
svc_ask_kind (SvcAsk.Hello endo_id interface_id) = 0x02
svc_ask_kind (SvcAsk.ModuleInserted primary count flags) = 0x1f
svc_ask_kind (SvcAsk.ModuleRemoved primary) = 0x20

-- the payload of a request
abbrev pub svc_ask_payload : SvcAsk → List ℕ
svc_ask_payload (SvcAsk.IntfDeviceId intf device) = intf ∷ device ∷ []
svc_ask_payload (SvcAsk.ConnCreate intf1 cport1 intf2 cport2 tc flags) =
    intf1 ∷ le16 cport1 ++ (intf2 ∷ le16 cport2 ++ (tc ∷ flags ∷ []))
svc_ask_payload (SvcAsk.ConnDestroy intf1 cport1 intf2 cport2) =
    intf1 ∷ le16 cport1 ++ (intf2 ∷ le16 cport2)
svc_ask_payload (SvcAsk.RouteCreate intf1 dev1 intf2 dev2) = intf1 ∷ dev1 ∷ intf2 ∷ dev2 ∷ []
svc_ask_payload (SvcAsk.RouteDestroy intf1 intf2) = intf1 ∷ intf2 ∷ []
svc_ask_payload SvcAsk.Ping = []
svc_ask_payload (SvcAsk.VsysEnable intf) = intf ∷ []
svc_ask_payload (SvcAsk.RefclkEnable intf) = intf ∷ []
svc_ask_payload (SvcAsk.UniproEnable intf) = intf ∷ []
svc_ask_payload (SvcAsk.IntfActivate intf) = intf ∷ []
svc_ask_payload (SvcAsk.ProtocolVersion major minor) = major ∷ minor ∷ []
svc_ask_payload (SvcAsk.Hello endo_id interface_id) = le16 endo_id ++ (interface_id ∷ [])
svc_ask_payload (SvcAsk.ModuleInserted primary count flags) = primary ∷ count ∷ le16 flags
svc_ask_payload (SvcAsk.ModuleRemoved primary) = primary ∷ []

-- the type of the request that a response answers
abbrev pub svc_reply_kind : SvcReply → ℕ
svc_reply_kind SvcReply.IntfDeviceId = 0x03
svc_reply_kind SvcReply.ConnCreate = 0x07
svc_reply_kind SvcReply.ConnDestroy = 0x08
svc_reply_kind SvcReply.RouteCreate = 0x0b
svc_reply_kind SvcReply.RouteDestroy = 0x0c
svc_reply_kind SvcReply.Ping = 0x13
svc_reply_kind (SvcReply.VsysEnable result) = 0x21
svc_reply_kind (SvcReply.RefclkEnable result) = 0x23
svc_reply_kind (SvcReply.UniproEnable result) = 0x25
svc_reply_kind (SvcReply.IntfActivate status kind) = 0x27
svc_reply_kind (SvcReply.ProtocolVersion major minor) = 0x01
svc_reply_kind SvcReply.Hello = 0x02
svc_reply_kind SvcReply.ModuleInserted = 0x1f
svc_reply_kind SvcReply.ModuleRemoved = 0x20

-- the payload of a response
abbrev pub svc_reply_payload : SvcReply → List ℕ
svc_reply_payload SvcReply.IntfDeviceId = []
svc_reply_payload SvcReply.ConnCreate = []
svc_reply_payload SvcReply.ConnDestroy = []
svc_reply_payload SvcReply.RouteCreate = []
svc_reply_payload SvcReply.RouteDestroy = []
svc_reply_payload SvcReply.Ping = []
svc_reply_payload (SvcReply.VsysEnable result) = result ∷ []
svc_reply_payload (SvcReply.RefclkEnable result) = result ∷ []
svc_reply_payload (SvcReply.UniproEnable result) = result ∷ []
svc_reply_payload (SvcReply.IntfActivate status kind) = status ∷ kind ∷ []
svc_reply_payload (SvcReply.ProtocolVersion major minor) = major ∷ minor ∷ []
svc_reply_payload SvcReply.Hello = []
svc_reply_payload SvcReply.ModuleInserted = []
svc_reply_payload SvcReply.ModuleRemoved = []
