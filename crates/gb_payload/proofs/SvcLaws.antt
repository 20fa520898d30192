-- The tables of the SVC protocol have its records.
use Rattle.std.proofs.Common.{◌≢◌, None}
use Rattle.gb_formats.specs.Records.{row_of}
use Rattle.gb_formats.specs.SvcRecords.{SvcAsk, svc_asks, svc_ask_kind, svc_ask_payload, SvcReply}
use Rattle.gb_formats.specs.SvcRecords.{svc_replies, svc_reply_kind, svc_reply_payload}
use Rattle.gb_payload.proofs.Tables.{AreSpelt, is_row}

-- the rows of requests
pub svc_asks_spelt : AreSpelt svc_ask_kind svc_ask_payload svc_asks
svc_asks_spelt = search parts 40

-- each of them has a row
pub svc_asks_listed : (made : SvcAsk) → row_of svc_asks (svc_ask_kind made) ≢ None
svc_asks_listed (SvcAsk.IntfDeviceId intf device) = is_row _
svc_asks_listed _ = is_row _

-- the rows of responses
pub svc_replies_spelt : AreSpelt svc_reply_kind svc_reply_payload svc_replies
svc_replies_spelt = search parts 40

-- each of them has a row
pub svc_replies_listed : (made : SvcReply) → row_of svc_replies (svc_reply_kind made) ≢ None
svc_replies_listed SvcReply.IntfDeviceId = is_row _
svc_replies_listed _ = is_row _
