-- The action of delivering: the front message of a queue is handled.
use Rattle.std.specs.Prelude.{ℕ, ◌==◌, Bool, true, false, if◌then◌else◌, Option, Some, None, Result}
use Rattle.std.specs.Prelude.{Ok, Err, List, [], ◌∷◌, ◌++◌}
use Rattle.std.specs.List.{list_any}
use Rattle.gb_base.specs.declared.bridge.Reading.{Reading}
use Rattle.gb_base.specs.declared.bridge.Reading.TheVariants as reading
use Rattle.gb_base.specs.declared.end.End.{End}
use Rattle.gb_base.specs.declared.end.Side.{Side}
use Rattle.gb_base.specs.declared.end.Side.TheVariants as side
use Rattle.gb_base.specs.declared.entry.ConnState.{ConnState}
use Rattle.gb_base.specs.declared.entry.ConnState.TheVariants as state
use Rattle.gb_base.specs.declared.entry.Entry.{Entry}
use Rattle.gb_base.specs.declared.entry.Entry.TheVariants as entry
use Rattle.gb_base.specs.declared.reasons.RawFault.{RawFault}
use Rattle.gb_base.specs.declared.outcome.Outcome.{Outcome}
use Rattle.gb_base.specs.declared.interface.Link.{Link}
use Rattle.gb_formats.specs.Bridges.{reading_of}
use Rattle.gb_formats.specs.Message.{Message}
use Rattle.gb_formats.specs.Wire.{raw_message}
use Rattle.gb_machine.specs.Actions.{Action, by_state, change, given, on_bus, tell, ◌▸◌}
use Rattle.gb_machine.specs.Bus.{Ask, Connection, Item, Place, Raw, RawReply, Reply, Request}
use Rattle.gb_machine.specs.Bus.{is_open, place_of, queue, request_of}
use Rattle.gb_machine.specs.Delivery.{answered, ended, forgotten, popped}
use Rattle.gb_machine.specs.Host.{link_of}
use Rattle.gb_machine.specs.HostActs.{follows}
use Rattle.gb_machine.specs.Incoming.{Incoming, incoming, incoming_raw, is_request}
use Rattle.gb_machine.specs.Lists.{first}
use Rattle.gb_machine.specs.Modules.{far_takes}
use Rattle.gb_machine.specs.Requests.{given_up_with, open_with}
use Rattle.gb_machine.specs.Responding.{serves}
use Rattle.gb_machine.specs.State.{State}

-- ---- who takes

-- the application processor takes on connections that are opening, open or draining
abbrev pub state_takes : ConnState → Bool
state_takes state.Opening = true
state_takes state.Open = true
state_takes state.Draining = true
state_takes state.Closing = false
state_takes state.Closed = false
state_takes state.Failed = false

-- it always takes on the connection of the supervisory controller
abbrev pub link_takes : Option Link → Bool
link_takes None = true
link_takes (Some l) = state_takes l.state

-- A side of a connection takes what is delivered there.
abbrev pub takes : Side → Connection → State → Bool
takes side.Ap c s = link_takes (link_of c.number s.host)
takes side.Far c s = far_takes c.peer s.modules

-- what is told of an item that is dropped
abbrev pub dropped : Item → Entry
dropped (Ask n) = entry.Dropped (Some n) false
dropped (Reply n result payload) = entry.Dropped (Some n) true
dropped (Raw bytes) = entry.Dropped None false
dropped (RawReply label kind result payload) = entry.Dropped None true

-- ---- requests

-- a request is held at the far end of a connection that has the hold mark
abbrev pub is_held : Side → Connection → State → Bool
is_held side.Ap c s = false
is_held side.Far c s = list_any (λ k. k == c.number) s.holds

-- a request waits to be answered
abbrev pub with_held : ℕ → Item → State → State
with_held k item s =
    record s { held = s.held ++ record { connection = k; item = item } ∷ [] }

-- A request is held.
unfoldable pub keeps : Connection → Item → Incoming → Action
keeps c item q = change (with_held c.number item) ▸ tell (entry.Held q.number)

-- A request is held or served.
unfoldable pub asked_at : Side → Connection → Item → Incoming → Action
asked_at at c item q = by_state (λ s.
    if is_held at c s then keeps c item q else serves at c q)

-- ---- responses

-- what the answer to a request of the application processor says
abbrev pub reading_at : Side → Connection → ℕ → ℕ → List ℕ → Reading
reading_at side.Ap c kind result payload =
    if result == 0 then reading_of c.protocol kind payload else reading.Nothing
reading_at side.Far c kind result payload = reading.Nothing

-- what the answer to request n says
abbrev pub reading_for : Side → Connection → ℕ → List ℕ → Option Request → Reading
reading_for at c result payload None = reading.Nothing
reading_for at c result payload (Some r) = reading_at at c r.kind result payload

-- A request ends, is told with the reading of its answer, and what waited for it goes on or fails.
unfoldable pub ends : ℕ → Outcome → Reading → Action
ends n how read = on_bus (ended n how) ▸ tell (entry.Ended n how read) ▸ follows n how

-- An open request of a side is answered.
unfoldable pub ends_answered : Side → Connection → ℕ → ℕ → List ℕ → Action
ends_answered at c n result payload = by_state (λ s.
    ends n (answered result payload) (reading_for at c result payload (request_of n s.bus)))

-- an answer came to a request that was given up, and something is told of that
unfoldable pub forgets : ℕ → Entry → Action
forgets n e = on_bus (forgotten n) ▸ tell e

-- An answer to an open request ends it; one to a request that was given up is late.
unfoldable pub by_number : Side → Connection → ℕ → ℕ → List ℕ → Action
by_number at c n result payload = by_state (λ s.
    if is_open n s.bus then ends_answered at c n result payload else forgets n (entry.Late n))

-- what a response with an identifier does, by the request that was given up with it
unfoldable pub late_by : Option ℕ → ℕ → Action
late_by None label = tell (entry.UnknownLabel label)
late_by (Some n) label = forgets n (entry.LateLabel label)

-- what it does, by the open request and the one that was given up
unfoldable pub answers_by : Option ℕ → Option ℕ → Side → Connection → ℕ → ℕ → List ℕ → Action
answers_by (Some n) late at c label result payload = ends_answered at c n result payload
answers_by None late at c label result payload = late_by late label

-- A response with an identifier answers the open request of the side that has it.
unfoldable pub by_label : Side → Connection → ℕ → ℕ → List ℕ → Action
by_label at c label result payload = by_state (λ s.
    answers_by (open_with c.number at label s.bus) (given_up_with c.number at label s.bus)
    at c label result payload)

-- A response to request n is taken. On a clean connection its number tells which request it
-- answers, on an unclean one its identifier.
unfoldable pub reply_taken : Side → Connection → ℕ → ℕ → List ℕ → Action
reply_taken at c n result payload =
    if c.clean then by_number at c n result payload
    else by_state (λ s. given (request_of n s.bus)
    (λ r. by_label at c r.label result payload))

-- ---- items

-- Raw bytes are taken: a message, or dropped and named.
unfoldable pub raw_taken : Side → Connection → Item → Result Message RawFault → Action
raw_taken at c item (Err fault) = tell (entry.BadRaw fault)
raw_taken at c item (Ok m) =
    if is_request m then asked_at at c item (incoming_raw m)
    else by_label at c m.id m.result m.payload

-- An item is taken at a side.
unfoldable pub arrives : Side → Connection → Item → Action
arrives at c (Ask n) = by_state (λ s. given (request_of n s.bus)
    (λ r. asked_at at c (Ask n) (incoming n r)))
arrives at c (Reply n result payload) = reply_taken at c n result payload
arrives at c (Raw bytes) = raw_taken at c (Raw bytes) (raw_message bytes)
arrives at c (RawReply label kind result payload) = by_label at c label result payload

-- An item is taken at a side, or dropped.
unfoldable pub handles : Side → Connection → Item → Action
handles at c item = by_state (λ s.
    if takes at c s then arrives at c item else tell (dropped item))

-- The front item toward a place is taken from its queue and handled.
unfoldable pub delivers_at : Place → Action
delivers_at p = given (first (queue p.side p.connection))
    (λ item. on_bus (popped p.connection.number p.side) ▸ handles p.side p.connection item)

-- The front item toward an end is delivered.
unfoldable pub delivers : End → Action
delivers at = by_state (λ s. given (place_of at s.bus.connections) delivers_at)
