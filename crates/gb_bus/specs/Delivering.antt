-- What a bus answers to a delivery and a reply, and where raw bytes are injected.
use Rattle.std.specs.Prelude.{◌≡◌, ◌⊎◌, ℕ, Bool, true, false, if◌then◌else◌, Option, Some, None}
use Rattle.std.specs.Prelude.{option_map, Result, Ok, Err, List, [], ◌∷◌, ◌++◌, ⊤}
use Rattle.gb_base.specs.declared.end.End.{End}
use Rattle.gb_base.specs.declared.end.Side.{Side}
use Rattle.gb_base.specs.declared.entry.Entry.TheVariants as entry
use Rattle.gb_base.specs.declared.reasons.RawFault.{RawFault}
use Rattle.gb_base.specs.declared.outcome.Outcome.TheVariants as outcome
use Rattle.gb_bus.specs.Stands.{Around, Stands, around_of}
use Rattle.gb_bus.specs.declared.answers.Arrival.{Arrival}
use Rattle.gb_bus.specs.declared.answers.Arrival.TheVariants as arrival
use Rattle.gb_bus.specs.declared.answers.Arrived.{Arrived}
use Rattle.gb_bus.specs.declared.answers.Asked.{Asked}
use Rattle.gb_bus.specs.declared.answers.DeliverFault.{DeliverFault}
use Rattle.gb_bus.specs.declared.answers.DeliverFault.TheVariants as fault
use Rattle.gb_bus.specs.declared.bus.Bus.{Bus}
use Rattle.gb_formats.specs.Message.{Message}
use Rattle.gb_formats.specs.Wire.{raw_message}
use Rattle.gb_invariants.specs.Facts.{Loose}
use Rattle.gb_machine.specs.Arriving.{dropped}
use Rattle.gb_machine.specs.Bus as machine
use Rattle.gb_machine.specs.Bus.{Place, Request, connection_of, is_open, other_side, place_of}
use Rattle.gb_machine.specs.Bus.{queue, request_of}
use Rattle.gb_machine.specs.Delivery.{answered, ended, forgotten, popped, replied}
use Rattle.gb_machine.specs.Incoming.{Incoming, is_request, reply_item, request_in}
use Rattle.gb_machine.specs.Lists.{first}
use Rattle.gb_machine.specs.Requests.{given_up_with, open_with}
use Rattle.gb_machine.specs.Sending.{is_wired}
use Rattle.gb_machine.specs.Serving.{answer}
use Rattle.gb_machine.specs.Wiring.{injected}

-- the bus without the front item toward a place
abbrev pub taken_at : Place → machine.Bus → machine.Bus
taken_at p b = popped p.connection.number p.side b

-- what names a request is right
pub record Names (asked : Asked) (q : Incoming) : Type 0 where
  pub number : asked.number ≡ q.number
  pub label : asked.label ≡ q.label
  pub kind : asked.kind ≡ q.kind

-- An item that was taken from a queue, toward a side of a connection.
abbrev pub taken_from : ℕ → Side → machine.Item → Loose
taken_from k at item = record { connection = k; side = at; item = item }

-- one more item is in no queue
abbrev pub with_item : Loose → Around → Around
with_item i around = record around { items = i ∷ around.items }

-- ---- requests

-- A request is delivered. It is in no queue until it is answered or let go.
pub record ArrivesAsk (around : Around) (new : Bus) (p : Place) (b : machine.Bus)
    (item : machine.Item) (asked : Asked) (payload : List ℕ) : Type 0 where
  pub request : Incoming
  pub is : request_in item b ≡ Some request
  pub names : Names asked request
  pub payload_is : payload ≡ request.payload
  pub stands : Stands (with_item (taken_from p.connection.number p.side item) around) new
      (taken_at p b)

-- ---- answers, by number

-- an answer on a clean connection ended its request
pub record ArrivesAnswer (around : Around) (new : Bus) (p : Place) (b : machine.Bus)
    (item : machine.Item) (number kind result : ℕ) (payload : List ℕ) : Type 0 where
  pub bytes : List ℕ
  pub request : Request
  pub item_is : item ≡ machine.Reply number result bytes
  pub clean : p.connection.clean ≡ true
  pub still_open : is_open number b ≡ true
  pub made : request_of number b ≡ Some request
  pub kind_is : kind ≡ request.kind
  pub outcome_is : answered result bytes ≡ outcome.Answered result payload
  pub stands : Stands around new (ended number (answered result bytes) (taken_at p b))

-- an answer on a clean connection came to a request that had ended
pub record ArrivesLate (around : Around) (new : Bus) (p : Place) (b : machine.Bus)
    (item : machine.Item) (number : ℕ) : Type 0 where
  pub result : ℕ
  pub bytes : List ℕ
  pub item_is : item ≡ machine.Reply number result bytes
  pub clean : p.connection.clean ≡ true
  pub closed : is_open number b ≡ false
  pub stands : Stands around new (forgotten number (taken_at p b))

-- ---- answers, by identifier

-- a response that belongs to the request which has its identifier
pub record Response : Type 0 where
  pub label : ℕ
  pub result : ℕ
  pub payload : List ℕ

abbrev pub response : ℕ → ℕ → List ℕ → Response
response label result payload = record { label = label; result = result; payload = payload }

-- raw bytes as a response
abbrev pub raw_response : Result Message RawFault → Option Response
raw_response (Err fault) = None
raw_response (Ok m) = if is_request m then None else Some (response m.id m.result m.payload)

-- The response that goes by its identifier alone: raw bytes, the reply to a request that came as
-- raw bytes, and on an unclean connection any other.
abbrev pub response_in : Bool → machine.Item → machine.Bus → Option Response
response_in clean (machine.Ask n) b = None
response_in clean (machine.Reply n result payload) b =
    if clean then None
    else option_map (λ r. response r.label result payload) (request_of n b)
response_in clean (machine.Raw bytes) b = raw_response (raw_message bytes)
response_in clean (machine.RawReply label kind result payload) b =
    Some (response label result payload)

-- a response ended the open request that has its identifier
pub record ArrivesLabelled (around : Around) (new : Bus) (p : Place) (b : machine.Bus)
    (item : machine.Item) (number kind result : ℕ) (payload : List ℕ) : Type 0 where
  pub came : Response
  pub request : Request
  pub is : response_in p.connection.clean item b ≡ Some came
  pub found : open_with p.connection.number p.side came.label (taken_at p b) ≡ Some number
  pub made : request_of number b ≡ Some request
  pub kind_is : kind ≡ request.kind
  pub outcome_is : answered came.result came.payload ≡ outcome.Answered result payload
  pub stands : Stands around new (ended number (answered came.result came.payload) (taken_at p b))

-- a response has the identifier of a request that was given up, which is free now
pub record ArrivesLateLabel (around : Around) (new : Bus) (p : Place) (b : machine.Bus)
    (item : machine.Item) (label : ℕ) : Type 0 where
  pub came : Response
  pub number : ℕ
  pub is : response_in p.connection.clean item b ≡ Some came
  pub label_is : label ≡ came.label
  pub unopened : open_with p.connection.number p.side label (taken_at p b) ≡ None
  pub found : given_up_with p.connection.number p.side label (taken_at p b) ≡ Some number
  pub stands : Stands around new (forgotten number (taken_at p b))

-- a response has an identifier that isn't in use
pub record ArrivesUnknown (around : Around) (new : Bus) (p : Place) (b : machine.Bus)
    (item : machine.Item) (label : ℕ) : Type 0 where
  pub came : Response
  pub is : response_in p.connection.clean item b ≡ Some came
  pub label_is : label ≡ came.label
  pub unopened : open_with p.connection.number p.side label (taken_at p b) ≡ None
  pub kept : given_up_with p.connection.number p.side label (taken_at p b) ≡ None
  pub stands : Stands around new (taken_at p b)

-- ---- what is let go

-- raw bytes aren't one whole message
pub record ArrivesBadRaw (around : Around) (new : Bus) (p : Place) (b : machine.Bus)
    (item : machine.Item) (fault : RawFault) : Type 0 where
  pub bytes : List ℕ
  pub item_is : item ≡ machine.Raw bytes
  pub fault_is : raw_message bytes ≡ Err fault
  pub stands : Stands around new (taken_at p b)

-- an item is dropped
pub record ArrivesDropped (around : Around) (new : Bus) (p : Place) (b : machine.Bus)
    (item : machine.Item) (number : Option ℕ) (reply : Bool) : Type 0 where
  pub told : entry.Dropped number reply ≡ dropped item
  pub stands : Stands around new (taken_at p b)

-- ---- all of them

-- what a delivery brings, by cases on it; the end takes it or not
abbrev pub Brings : Around → Bus → Bool → Place → machine.Bus → machine.Item → Arrival
    → Type 0
Brings around new takes p b item (arrival.Ask asked payload) =
    (takes ≡ true) × ArrivesAsk around new p b item asked payload
Brings around new takes p b item (arrival.Ended number kind result payload) =
    (takes ≡ true)
    × (ArrivesAnswer around new p b item number kind result payload
    ⊎ ArrivesLabelled around new p b item number kind result payload)
Brings around new takes p b item (arrival.Late number) =
    (takes ≡ true) × ArrivesLate around new p b item number
Brings around new takes p b item (arrival.LateLabel label) =
    (takes ≡ true) × ArrivesLateLabel around new p b item label
Brings around new takes p b item (arrival.UnknownLabel label) =
    (takes ≡ true) × ArrivesUnknown around new p b item label
Brings around new takes p b item (arrival.BadRaw fault) =
    (takes ≡ true) × ArrivesBadRaw around new p b item fault
Brings around new takes p b item (arrival.Dropped number reply) =
    (takes ≡ false) × ArrivesDropped around new p b item number reply

-- the front item toward the end was taken from its queue
pub record Delivers (around : Around) (new : Bus) (at : End) (takes : Bool) (b : machine.Bus)
    (a : Arrived) : Type 0 where
  pub place : Place
  pub item : machine.Item
  pub named : place_of at b.connections ≡ Some place
  pub front : first (queue place.side place.connection) ≡ Some item
  pub connection : a.connection ≡ place.connection.number
  pub brings : Brings around new takes place b item a.item

-- no wired connection names the end
pub record DeliversNowhere (around : Around) (new : Bus) (at : End) (b : machine.Bus) : Type
    0 where
  pub named : place_of at b.connections ≡ None
  pub stands : Stands around new b

-- nothing waits there
pub record DeliversNothing (around : Around) (new : Bus) (at : End) (b : machine.Bus) : Type
    0 where
  pub place : Place
  pub named : place_of at b.connections ≡ Some place
  pub empty : queue place.side place.connection ≡ []
  pub stands : Stands around new b

-- By cases on the answer. After want of memory nothing is said.
abbrev pub DeliversAs : Around → Bus → End → Bool → machine.Bus → Result Arrived DeliverFault
    → Type 0
DeliversAs around new at takes b (Ok a) = Delivers around new at takes b a
DeliversAs around new at takes b (Err fault.NoConnection) = DeliversNowhere around new at b
DeliversAs around new at takes b (Err fault.QueueEmpty) = DeliversNothing around new at b
DeliversAs around new at takes b (Err (fault.Memory m)) = ⊤

-- ---- replies

-- What a reply answers: the request that an item is, with the number, the identifier and the type
-- that `asked` has, and not unidirectional.
pub record MayReply (asked : Asked) (b : machine.Bus) (item : machine.Item) : Type 0 where
  pub request : Incoming
  pub is : request_in item b ≡ Some request
  pub names : Names asked request
  pub twoway : request.oneway ≡ false

-- A request that was taken at a side of a connection is answered: it is among the items that are in
-- no queue, between these, and isn't any more. The reply waits toward the asker, or is lost where
-- the connection isn't wired.
abbrev pub RepliesAs : Bus → Bus → ℕ → Side → Asked → ℕ → List ℕ → Type 0
RepliesAs old new k at asked code payload =
    (names : List ℕ) (before after : List Loose) (b : machine.Bus) (item : machine.Item)
    → Stands (around_of (before ++ taken_from k at item ∷ after) names) old b
    → (may : MayReply asked b item)
    → Stands (around_of (before ++ after) names) new
    (replied k (other_side at) (reply_item may.request (answer code payload)) b)

-- ---- raw bytes

-- Raw bytes are injected on a wired connection: they wait toward the application processor, and the
-- connection is unclean from then on.
abbrev pub InjectsAs : Bus → Bus → ℕ → List ℕ → Type 0
InjectsAs old new k bytes =
    (around : Around) (b : machine.Bus) → Stands around old b
    → is_wired (connection_of k b) ≡ true → Stands around new (injected k bytes b)
