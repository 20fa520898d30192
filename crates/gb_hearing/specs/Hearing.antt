-- What the application processor hears of a connection in a run: the messages that it sends and
-- takes there, in the order in which it does, as a capture has them. A message that is dropped
-- isn't heard; a request that is lost on its way is, since it was sent.
use Rattle.std.specs.Prelude.{◌≡◌, ℕ, ◌+◌, ◌==◌, Bool, true, false, ◌&&◌, if◌then◌else◌, Option}
use Rattle.std.specs.Prelude.{Some, None, option_map, Result, Ok, Err, List, [], ◌∷◌, ◌++◌, length}
use Rattle.std.specs.Prelude.{drop, map}
use Rattle.std.specs.List.{filter}
use Rattle.gb_base.specs.declared.end.Side.TheVariants as side
use Rattle.gb_base.specs.declared.event.Event.{Event}
use Rattle.gb_base.specs.declared.event.Event.TheVariants as event
use Rattle.gb_base.specs.declared.reasons.RawFault.{RawFault}
use Rattle.gb_formats.specs.Audit.{findings}
use Rattle.gb_formats.specs.Captures.{Heard}
use Rattle.gb_formats.specs.Message.{Message, request, response}
use Rattle.gb_formats.specs.Wire.{raw_message}
use Rattle.gb_machine.specs.Arriving.{takes}
use Rattle.gb_machine.specs.Bus.{Ask, Bus, Connection, Item, Place, Raw, RawReply, Reply, Request}
use Rattle.gb_machine.specs.Bus.{place_of, queue, request_of}
use Rattle.gb_machine.specs.Host.{Host}
use Rattle.gb_machine.specs.HostServing.{host_serves}
use Rattle.gb_machine.specs.Incoming.{Incoming, request_in}
use Rattle.gb_machine.specs.Lists.{first}
use Rattle.gb_machine.specs.Members.{Each}
use Rattle.gb_machine.specs.Requests.{is_of, same_side}
use Rattle.gb_machine.specs.Runs.{AreValid, Moment, after, moments_in, state_by}
use Rattle.gb_machine.specs.State.{State}

-- A message that is heard, and whether the application processor sent it, or else took it.
abbrev pub Spoken : Type 0
Spoken = Bool × Message

-- ---- what it takes, and what it answers

-- a request as a message
abbrev pub request_message : Request → Message
request_message r = request r.label r.kind r.payload

-- a response to a request as a message
abbrev pub response_message : ℕ → List ℕ → Request → Message
response_message result payload r = response r.label r.kind result payload

-- the message that raw bytes are, where they are one
abbrev pub whole_message : Result Message RawFault → Option Message
whole_message (Ok m) = Some m
whole_message (Err fault) = None

-- The message that an item is.
abbrev pub message_in : Item → Bus → Option Message
message_in (Ask n) b = option_map request_message (request_of n b)
message_in (Reply n result payload) b =
    option_map (response_message result payload) (request_of n b)
message_in (Raw bytes) b = whole_message (raw_message bytes)
message_in (RawReply label kind result payload) b = Some (response label kind result payload)

-- a message is taken
abbrev pub taken : Option Message → List Spoken
taken None = []
taken (Some m) = (false, m) ∷ []

-- what the application processor answers to a request on connection k
abbrev pub answer_message : ℕ → Host → Incoming → Message
answer_message k h q =
    let a = (host_serves k q.kind q.payload h).answer in
    response q.label q.kind a.result a.payload

-- It answers each request that isn't unidirectional.
abbrev pub answers : ℕ → Host → Option Incoming → List Spoken
answers k h None = []
answers k h (Some q) = if q.oneway then [] else (true, answer_message k h q) ∷ []

-- What is heard where it takes an item on connection k: the message, and its answer to a request.
abbrev pub heard_of : ℕ → State → Item → List Spoken
heard_of k s item = taken (message_in item s.bus) ++ answers k s.host (request_in item s.bus)

-- the same of the first item of a queue, where there is one
abbrev pub heard_of_first : ℕ → State → Option Item → List Spoken
heard_of_first k s None = []
heard_of_first k s (Some item) = heard_of k s item

-- ---- at an event

-- a place is the application processor's on connection k, and it takes what is delivered there
abbrev pub hears : ℕ → State → Place → Bool
hears k s p =
    same_side p.side side.Ap && p.connection.number == k && takes p.side p.connection s

-- what is heard of connection k where the first item toward a place is delivered
abbrev pub heard_at_place : ℕ → State → Option Place → List Spoken
heard_at_place k s None = []
heard_at_place k s (Some p) =
    if hears k s p then heard_of_first k s (first (queue p.side p.connection)) else []

-- What the application processor takes on connection k at an event, and what it answers to that.
abbrev pub heard_taken : ℕ → State → Event → List Spoken
heard_taken k s (event.Deliver at) = heard_at_place k s (place_of at s.bus.connections)
heard_taken k s _ = []

-- a request that the application processor makes
abbrev pub asking : Request → Spoken
asking r = (true, request_message r)

-- the requests of a list that it makes on connection k
abbrev pub asked : ℕ → List Request → List Spoken
asked k rs = map asking (filter (is_of k side.Ap) rs)

-- what it asks on connection k from one state of the bus to another
abbrev pub heard_asked : ℕ → Bus → Bus → List Spoken
heard_asked k before after = asked k (drop (length before.requests) after.requests)

-- What is heard of connection k at a moment: first what is taken and answered there, then
-- what is asked.
abbrev pub heard_at : ℕ → Moment → List Spoken
heard_at k m = heard_taken k m.before m.event ++ heard_asked k m.before.bus (after m).bus

-- ---- in a run

-- what is heard of connection k at moments, in order
abbrev pub heard_in : ℕ → List Moment → List Spoken
heard_in k [] = []
heard_in k (m ∷ ms) = heard_at k m ++ heard_in k ms

-- What the application processor hears of connection k in a run, a settle being its deliveries.
abbrev pub heard_by : ℕ → List Event → List Spoken
heard_by k es = heard_in k (moments_in es)

-- messages as those of a capture, where the first line has number n
abbrev pub in_lines : ℕ → List Spoken → List Heard
in_lines n [] = []
in_lines n (x ∷ xs) =
    record { line = n; from_ap = x.0; message = x.1 } ∷ in_lines (n + 1) xs

-- The capture of connection k in a run: a line for each message.
abbrev pub capture_by : ℕ → List Event → List Heard
capture_by k es = in_lines 1 (heard_by k es)

-- ---- the laws

-- a connection is clean, if it is the one with number k
abbrev pub IsCleanAs : ℕ → Connection → Type 0
IsCleanAs k c = c.number ≡ k → c.clean ≡ true

-- connection k is clean, where it is live
abbrev pub IsClean : ℕ → State → Type 0
IsClean k s = Each (IsCleanAs k) s.bus.connections

-- Connection k was clean throughout a run, wherever it was live: before each moment of it.
abbrev pub WasClean : ℕ → List Event → Type 0
WasClean k es = Each (λ m. IsClean k m.before) (moments_in es)

-- a connection that is clean was so throughout a run
abbrev pub WasSo : List Event → Connection → Type 0
WasSo es c = c.clean ≡ true → WasClean c.number es

-- Each live connection that is clean was always clean.
abbrev pub CleanWasClean : Type 0
CleanWasClean = (es : List Event) → AreValid es → Each (WasSo es) (state_by es).bus.connections

-- Nothing is found in what is heard of a connection that was clean.
abbrev pub NothingFound : Type 0
NothingFound =
    (es : List Event) → AreValid es → (k : ℕ) → WasClean k es → findings (capture_by k es) ≡ []

-- what is heard of a connection has no finding, where it is clean
abbrev pub HasNoFinding : List Event → Connection → Type 0
HasNoFinding es c = c.clean ≡ true → findings (capture_by c.number es) ≡ []

-- What the application processor hears of a connection that is clean at the end of a run has no
-- finding of the audit.
abbrev pub HeardHasNoFinding : Type 0
HeardHasNoFinding =
    (es : List Event) → AreValid es → Each (HasNoFinding es) (state_by es).bus.connections
