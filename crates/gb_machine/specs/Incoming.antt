-- A request that is delivered, and its reply.
use Rattle.std.specs.Prelude.{ℕ, ◌==◌, nat_lt, Bool, if◌then◌else◌, Option, Some, None, option_map}
use Rattle.std.specs.Prelude.{Result, Ok, Err, List}
use Rattle.gb_base.specs.declared.end.Side.{Side}
use Rattle.gb_base.specs.declared.entry.Entry.{Entry}
use Rattle.gb_base.specs.declared.entry.Entry.TheVariants as entry
use Rattle.gb_base.specs.declared.reasons.RawFault.{RawFault}
use Rattle.gb_formats.specs.Message.{Message, message_size, response, spelling}
use Rattle.gb_formats.specs.Wire.{raw_message}
use Rattle.gb_machine.specs.Bus.{Ask, Bus, Connection, Item, Raw, RawReply, Reply, Request, end_of}
use Rattle.gb_machine.specs.Bus.{other_side, request_of}
use Rattle.gb_machine.specs.Serving.{Answer}

-- A request as a responder sees it. One that came as raw bytes has no number.
pub record Incoming : Type 0 where
  pub number : Option ℕ
  pub label : ℕ
  pub kind : ℕ
  pub payload : List ℕ
  pub oneway : Bool

-- request n, as a responder sees it
abbrev pub incoming : ℕ → Request → Incoming
incoming n r = record {
  number = Some n;
  label = r.label;
  kind = r.kind;
  payload = r.payload;
  oneway = r.oneway;
}

-- A request that came as raw bytes. One with identifier 0 is unidirectional.
abbrev pub incoming_raw : Message → Incoming
incoming_raw m = record {
  number = None;
  label = m.id;
  kind = m.kind;
  payload = m.payload;
  oneway = m.id == 0;
}

-- a message is a request
abbrev pub is_request : Message → Bool
is_request m = nat_lt m.kind 128

-- the request that raw bytes are
abbrev pub raw_request : Result Message RawFault → Option Incoming
raw_request (Ok m) = if is_request m then Some (incoming_raw m) else None
raw_request (Err fault) = None

-- The request that an item is.
abbrev pub request_in : Item → Bus → Option Incoming
request_in (Ask n) b = option_map (incoming n) (request_of n b)
request_in (Raw bytes) b = raw_request (raw_message bytes)
request_in (Reply n result payload) b = None
request_in (RawReply label kind result payload) b = None

-- the reply to request n, or to a request that came as raw bytes
abbrev pub reply_to : Option ℕ → Incoming → Answer → Item
reply_to (Some n) q a = Reply n a.result a.payload
reply_to None q a = RawReply q.label q.kind a.result a.payload

-- The reply to a request.
abbrev pub reply_item : Incoming → Answer → Item
reply_item q a = reply_to q.number q a

-- What is told of a reply.
abbrev pub reply_entry : Side → Connection → Incoming → Answer → Entry
reply_entry at c q a =
    entry.Replied q.number (end_of at c) (end_of (other_side at) c) a.result
    (message_size a.payload) (spelling (response q.label q.kind a.result a.payload))
