-- Points within the step of an event, what is told, and what causes what.
use Rattle.std.specs.Prelude.{Bool, List, None, Option, Some, false, map, true, ℕ, [], ◌++◌, ◌∷◌}
use Rattle.std.specs.Prelude.{◌≡◌, ◌≤◌}
use Rattle.gb_base.specs.declared.bridge.Reading.TheVariants as reading
use Rattle.gb_base.specs.declared.end.{End.End, Side.Side}
use Rattle.gb_base.specs.declared.end.End.TheVariants as end
use Rattle.gb_base.specs.declared.end.Side.TheVariants as side
use Rattle.gb_base.specs.declared.entry.Entry.{Entry}
use Rattle.gb_base.specs.declared.entry.ConnState.TheVariants as state
use Rattle.gb_base.specs.declared.entry.Entry.TheVariants as entry
use Rattle.gb_base.specs.declared.event.Event.{Event}
use Rattle.gb_base.specs.declared.event.Event.TheVariants as event
use Rattle.gb_base.specs.declared.host_event.HostEvent.TheVariants as host_event
use Rattle.gb_base.specs.declared.host_event.HostEvent.{HostEvent}
use Rattle.gb_base.specs.declared.name.Name.{Name}
use Rattle.gb_base.specs.declared.outcome.Outcome.{Outcome}
use Rattle.gb_base.specs.declared.outcome.Outcome.TheVariants as outcome
use Rattle.gb_base.specs.declared.interface.Link.{Link}
use Rattle.gb_machine.specs.Bus.{Bus, Connection, Item, Place, Request, next_number, other_side}
use Rattle.gb_machine.specs.Bus.{place_of, queue, request_of}
use Rattle.gb_machine.specs.Incoming.{Incoming, reply_item, request_in}
use Rattle.gb_machine.specs.Turns.{Act, Asking}
use Rattle.gb_machine.specs.Host.{Host, interface_of, interfaces_of, link_at}
use Rattle.gb_machine.specs.{Asking.asked, Delivery.popped, Delivery.replied}
use Rattle.gb_machine.specs.{HostServing.host_serves, HostTurns.links_of}
use Rattle.gb_machine.specs.{LawsBus.NameRequests, Lists.first, Lists.span, Members.Each}
use Rattle.gb_machine.specs.{Members.IsIn}
use Rattle.gb_machine.specs.{Names.named, Refusals.refusal, Runs.Moment, Sending.Draft}
use Rattle.gb_machine.specs.{Serving.Answer, State.Held, State.State}
use Rattle.gb_machine.specs.{Requests.open_on}
use Rattle.gb_invariants.proofs.HostChanges.{Notice, at_event, at_insertion, at_removal}
use Rattle.gb_invariants.proofs.Selves.{SameSelf}
use Rattle.gb_invariants.specs.Facts.{BusFits, Loose}
use Rattle.gb_laws.proofs.links.Draining.{FirstDrains}

-- ---- points

-- An item that was taken at a side of a connection and is being handled.
pub record Hand : Type 0 where
  pub connection : Connection  -- as it was before
  pub side : Side
  pub item : Item

-- What became of wires within a step: none changed, one was wired, or some were unwired.
pub data Wires : Type 0 where
  Untouched : Wires
  Wired : Wires
  Unwired : Wires

-- A point within the step of an event: what was told so far, the state, the item that is being
-- handled, the acts that the application processor has still to do, what became of wires, and the
-- request that was made for which its sequence is still to wait.
pub record Point : Type 0 where
  pub told : List Entry
  pub state : State
  pub hand : Option Hand
  pub pending : List Act
  pub wires : Wires
  pub asked : Option (Asking × ℕ)

-- the point before an event, or behind one
abbrev pub resting : List Entry → State → Point
resting told s = record {
  told = told;
  state = s;
  hand = None;
  pending = [];
  wires = Untouched;
  asked = None;
}

-- more is told, and the state is another
abbrev pub on : State → List Entry → Point → Point
on s es a = record a { told = a.told ++ es; state = s }

-- and the bus is another
abbrev pub on_bus : Bus → List Entry → Point → Point
on_bus b es a = on (record a.state { bus = b }) es a

-- ---- what is loose

-- an item in hand, as a loose one
abbrev pub loose_hand : Option Hand → List Loose → List Loose
loose_hand None loose = loose
loose_hand (Some h) loose = record {
  connection = h.connection.number;
  side = h.side;
  item = h.item;
} ∷ loose

-- a held item, as a loose one
abbrev pub loose_held : Held → Loose
loose_held h = record { connection = h.connection; side = side.Far; item = h.item }

-- What is loose at a point: the item in hand, and what is held.
abbrev pub loose : Point → List Loose
loose a = loose_hand a.hand (map loose_held a.state.held)

-- ---- the basis

-- The connection of what is being handled is live, as it was but for its queues.
pub record IsStill (c : Connection) (b : Bus) : Type 0 where
  pub now : Connection
  pub live : IsIn now b.connections
  pub self : SameSelf c now

-- the facts that all laws stand on
pub record Basis (a : Point) : Type 0 where
  pub bus : BusFits (loose a) a.state.bus
  pub names : NameRequests a.state
  pub drains : FirstDrains a.state.host.links
  pub hand : (h : Hand) → a.hand ≡ Some h → IsStill h.connection a.state.bus

-- ---- entries

-- an entry tells no end, no reply, no injection and no opening
abbrev pub is_quiet : Entry → Bool
is_quiet (entry.Ended n how read) = false
is_quiet (entry.Replied n from to result size bytes) = false
is_quiet (entry.Raw from to size bytes) = false
is_quiet (entry.Connection k ap i c state.Opening) = false
is_quiet _ = true

abbrev pub AreQuiet : List Entry → Type 0
AreQuiet es = Each (λ e. is_quiet e ≡ true) es

-- an entry is quiet, and tells of no connection
abbrev pub is_silent : Entry → Bool
is_silent (entry.Connection k ap i c state) = false
is_silent e = is_quiet e

abbrev pub AreSilent : List Entry → Type 0
AreSilent es = Each (λ e. is_silent e ≡ true) es

-- what is told behind the request of a draft: a unidirectional one ends at once
abbrev pub sent_told : Bool → ℕ → List Entry
sent_told true n = entry.Ended n outcome.Sent reading.Nothing ∷ []
sent_told false n = []

-- what is told where a request is made
abbrev pub asked_told : Draft → Connection → ℕ → Bus → List Entry
asked_told d c label b = asked d c label b ∷ sent_told d.oneway (next_number b)

-- ---- causes

-- At this moment an item is delivered at the application processor, which takes
-- notice of something.
pub record IsNoticed (m : Moment) (e : HostEvent) : Type 0 where
  pub at : End
  pub place : Place
  pub item : Item
  pub request : Incoming
  pub event : m.event ≡ event.Deliver at
  pub named : place_of at m.before.bus.connections ≡ Some place
  pub side : place.side ≡ side.Ap
  pub front : first (queue place.side place.connection) ≡ Some item
  pub made : request_in item m.before.bus ≡ Some request
  pub notices : (host_serves place.connection.number request.kind request.payload
      m.before.host).notices ≡ Some e

-- At this moment a request is delivered at the application processor, on connection k, of a type
-- and
-- with a payload.
pub record IsServed (m : Moment) (k type : ℕ) (bytes : List ℕ) : Type 0 where
  pub at : End
  pub place : Place
  pub item : Item
  pub request : Incoming
  pub event : m.event ≡ event.Deliver at
  pub named : place_of at m.before.bus.connections ≡ Some place
  pub side : place.side ≡ side.Ap
  pub front : first (queue place.side place.connection) ≡ Some item
  pub made : request_in item m.before.bus ≡ Some request
  pub on : place.connection.number ≡ k
  pub kind : request.kind ≡ type
  pub payload : request.payload ≡ bytes

-- What the supervisory controller serves was taken, and may have been replied to.
pub data IsAfterReply (k : ℕ) (at : Side) (q : Incoming) (b after : Bus) : Type 0 where
  unreplied : after ≡ b → IsAfterReply k at q b after
  replied_to : (r : Answer) → after ≡ replied k (other_side at) (reply_item q r) b
      → IsAfterReply k at q b after

-- At a moment the supervisory controller serves the request that stands in front toward it, and a
-- state is as before but for that and the reply to it.
pub record IsServing (m : Moment) (s : State) (q : Incoming) : Type 0 where
  pub at : End
  pub place : Place
  pub item : Item
  pub event : m.event ≡ event.Deliver at
  pub named : place_of at m.before.bus.connections ≡ Some place
  pub far : place.side ≡ side.Far
  pub svc : place.connection.peer ≡ end.Svc
  pub front : first (queue place.side place.connection) ≡ Some item
  pub made : request_in item m.before.bus ≡ Some q
  pub host : s.host ≡ m.before.host
  pub ports : s.ports ≡ m.before.ports
  pub past : s.past ≡ m.before.past
  pub bus : IsAfterReply place.connection.number side.Far q
      (popped place.connection.number side.Far m.before.bus) s.bus

-- At this moment the insertion of a module that has this interface is handled, and the interface is
-- absent where it was before.
pub record IsArriving (m : Moment) (p i : ℕ) (h : Host) : Type 0 where
  pub count : ℕ
  pub noticed : IsNoticed m (host_event.Inserted p count)
  pub within : IsIn i (span p count)
  pub absent : interface_of i m.before.host ≡ None → interface_of i h ≡ None

-- At this moment the removal of a module that has this interface is handled, and no connection is
-- known that wasn't before.
pub record IsDeparting (m : Moment) (i : ℕ) (h : Host) : Type 0 where
  pub primary : ℕ
  pub noticed : IsNoticed m (host_event.Removed primary)
  pub known : IsIn i (interfaces_of primary m.before.host)
  pub links : (l : Link) → IsIn l h.links → IsIn l m.before.host.links

-- Why the application processor takes notice of something at a moment, its host being as it was
-- before, but for a module's interfaces one after another, and where a request ended or nothing is
-- open on a connection.
abbrev pub IsCaused : Moment → Notice → Host → Type 0
IsCaused m (at_insertion p i) h = IsArriving m p i h
IsCaused m (at_removal i) h = IsDeparting m i h
IsCaused m (at_event (host_event.Inserted p count)) h = ⊥
IsCaused m (at_event (host_event.Removed p)) h = ⊥
IsCaused m (at_event (host_event.Connect i c)) h =
    (h ≡ m.before.host) × (m.event ≡ event.Connect i c)
    × (refusal m.before (event.Connect i c) ≡ None) × (c ≤ 4095)
IsCaused m (at_event (host_event.Disconnect i c)) h =
    (h ≡ m.before.host) × (m.event ≡ event.Disconnect i c)
    × (refusal m.before (event.Disconnect i c) ≡ None)
IsCaused m (at_event (host_event.Drain i c)) h =
    (h ≡ m.before.host) × (m.event ≡ event.Drain i c)
    × (refusal m.before (event.Drain i c) ≡ None)
IsCaused m (at_event (host_event.Idle k)) h = FirstDrains h.links
IsCaused m (at_event (host_event.Ended n how)) h = Unit {0}

-- a tick, and a request whose deadline came
pub record IsLate (m : Moment) (s : State) (n : ℕ) : Type 0 where
  pub millis : ℕ
  pub request : Request
  pub event : m.event ≡ event.Tick millis
  pub made : request_of n s.bus ≡ Some request
  pub due : request.deadline ≤ s.now

-- a cancel, and the name of a request
pub record IsCancelled (m : Moment) (n : ℕ) : Type 0 where
  pub name : Name
  pub event : m.event ≡ event.Cancel name
  pub named : named name m.before.names ≡ Some n

-- why a request is given up at a moment
abbrev pub IsGivenUpFor : Moment → State → Outcome → ℕ → Type 0
IsGivenUpFor m s outcome.Cancelled n = IsCancelled m n
IsGivenUpFor m s outcome.Timeout n = IsLate m s n
IsGivenUpFor m s _ n = ⊥

-- Why the application processor's side of a connection is closed at a moment: the connection is
-- disconnected, or is one of an interface whose removal is handled, or no request of the
-- application processor is open on it.
pub data IsShutFor (m : Moment) (k : ℕ) (b : Bus) : Type 0 where
  disconnected : (i c : ℕ) (l : Link) → m.event ≡ event.Disconnect i c
      → link_at i c m.before.host ≡ Some l → l.connection ≡ k → IsShutFor m k b
  removed : (p i : ℕ) (l : Link) → IsNoticed m (host_event.Removed p)
      → IsIn i (interfaces_of p m.before.host) → IsIn l (links_of i m.before.host)
      → l.connection ≡ k → IsShutFor m k b
  idle : open_on k side.Ap b ≡ [] → IsShutFor m k b

-- ---- events

-- an event at which the supervisory controller asks of its own
abbrev pub IsOfSvc : Event → Type 0
IsOfSvc event.Boot = Unit {0}
IsOfSvc (event.Insert i kinds) = Unit {0}
IsOfSvc (event.InsertRaw i manifest) = Unit {0}
IsOfSvc (event.Pull i) = Unit {0}
IsOfSvc _ = ⊥

-- an event that is a bridge line
abbrev pub IsBridge : Event → Type 0
IsBridge (event.Bridge name i c what) = Unit {0}
IsBridge _ = ⊥
