-- The single changes that lead from one point within the step of an event to the next.
use Rattle.std.specs.Prelude.{Bool, List, None, Option, Some, false, is_some, length, map, nat_lt}
use Rattle.std.specs.Prelude.{true, ℕ, [], ◌+◌, ◌<◌, ◌∷◌, ◌≡◌, ◌≢◌, ◌⊎◌}
use Rattle.gb_base.specs.declared.bridge.BridgeAsk.{BridgeAsk}
use Rattle.gb_base.specs.declared.bridge.Reading.TheVariants as reading
use Rattle.gb_base.specs.declared.end.End.{End}
use Rattle.gb_base.specs.declared.end.End.TheVariants as end
use Rattle.gb_base.specs.declared.end.Side.TheVariants as side
use Rattle.gb_base.specs.declared.entry.Entry.{Entry}
use Rattle.gb_base.specs.declared.entry.ConnState.TheVariants as state
use Rattle.gb_base.specs.declared.entry.Entry.TheVariants as entry
use Rattle.gb_base.specs.declared.event.Event.TheVariants as event
use Rattle.gb_base.specs.declared.host_event.HostEvent.TheVariants as host_event
use Rattle.gb_base.specs.declared.name.Name.{Name}
use Rattle.gb_base.specs.declared.outcome.Outcome.{Outcome}
use Rattle.gb_base.specs.declared.outcome.Outcome.TheVariants as outcome
use Rattle.gb_base.specs.declared.interface.Link.{Link}
use Rattle.gb_base.specs.declared.download.Next.TheVariants as next
use Rattle.gb_formats.specs.Images.{image_of}
use Rattle.gb_formats.specs.Module.{Module}
use Rattle.gb_machine.specs.Arriving.{reading_for, state_takes, with_held}
use Rattle.gb_machine.specs.Bus.{Bus, Connection, Item, Place, Reply, connection_of, is_open}
use Rattle.gb_machine.specs.Bus.{next_number, other_side, place_of, queue, request_of}
use Rattle.gb_machine.specs.Delivery.{answered, ended, forgotten, popped, replied}
use Rattle.gb_machine.specs.HostActs.{host_draft, with_awaited, with_made}
use Rattle.gb_machine.specs.Incoming.{Incoming, reply_entry, reply_item, request_in}
use Rattle.gb_machine.specs.Names.{bound, freed, named}
use Rattle.gb_machine.specs.Ports.{is_powered, level_of, unrouted}
use Rattle.gb_machine.specs.Refusals.{is_reserved, module_place}
use Rattle.gb_machine.specs.Requests.{gave_up, given_up_with, open_on, open_with}
use Rattle.gb_machine.specs.Sending.{Draft, label_for, sent}
use Rattle.gb_machine.specs.State.{Held, Load, Plugged, Port, State, Trail}
use Rattle.gb_machine.specs.SvcTable.{Create, Unroute, svc_step}
use Rattle.gb_machine.specs.Turns.{Act, Asking, Making}
use Rattle.gb_machine.specs.Wires.{disconnected_told, with_unwired, with_wired}
use Rattle.gb_machine.specs.Wiring.{detached, is_wired_to, next_connection, shut_down}
use Rattle.gb_machine.specs.{Failures.unsent, Holding.held_on, Host.with_given, Host.with_link}
use Rattle.gb_machine.specs.{HostServing.host_serves, LawsBus.is_awaited}
use Rattle.gb_machine.specs.LineActions.{spent, with_fewer, with_injected}
use Rattle.gb_machine.specs.{Lists.first, Lists.nth, Loading.with_done, Modules.module_at}
use Rattle.gb_machine.specs.{Members.EachTwo, Members.IsIn, Plugging.with_told, Runs.Moment}
use Rattle.gb_machine.specs.{Serving.Answer}
use Rattle.gb_invariants.proofs.HostChanges.{Notice, at_event, at_insertion, turn_of}
use Rattle.gb_laws.proofs.marks.Wholes.{AreElsewhere, AreWhole, plugged_at}
pub use Rattle.gb_laws.proofs.points.Loadings.{Going, HearsBack, IsGoing, IsHeard, IsUnloaded}
pub use Rattle.gb_laws.proofs.points.Loadings.{KeepLoaders, StaysOrFails, begins, continues}
pub use Rattle.gb_laws.proofs.points.Loadings.{loader_in, loads_gone, modules_gone, trails_gone}
pub use Rattle.gb_laws.proofs.points.Loadings.{unloaded}
pub use Rattle.gb_laws.proofs.points.PointParts.{AreQuiet, Basis, Hand, IsAfterReply, IsBridge}
pub use Rattle.gb_laws.proofs.points.PointParts.{IsCancelled, IsCaused, IsGivenUpFor, IsLate}
pub use Rattle.gb_laws.proofs.points.PointParts.{IsNoticed}
pub use Rattle.gb_laws.proofs.points.PointParts.{IsOfSvc, IsServed, IsServing, IsShutFor, IsStill}
pub use Rattle.gb_laws.proofs.points.PointParts.{Point}
pub use Rattle.gb_laws.proofs.points.PointParts.{Untouched, Unwired, Wired, Wires, asked_told}
pub use Rattle.gb_laws.proofs.points.PointParts.{is_quiet}
pub use Rattle.gb_laws.proofs.points.PointParts.{is_silent, loose, loose_hand, loose_held, on}
pub use Rattle.gb_laws.proofs.points.PointParts.{on_bus}
pub use Rattle.gb_laws.proofs.points.PointParts.{replied_to, resting, sent_told, unreplied}

-- ---- single changes

-- an acting of which the request is still to be made, at the front of those that are pending
pub data IsAsking (q : Asking) (pending rest : List Act) : Type 0 where
  asking : pending ≡ Act.Ask q ∷ rest → IsAsking q pending rest
  opening : (w : Making) → pending ≡ Act.Make w q ∷ rest → IsAsking q pending rest

-- whether the wire of a live connection of a module is there
pub record IsLive (k : ℕ) (wire : Bool) (b : Bus) : Type 0 where
  pub connection : Connection
  pub live : IsIn connection b.connections
  pub number : connection.number ≡ k
  pub wired : connection.wired ≡ wire
  pub intf : ℕ
  pub cport : ℕ
  pub peer : connection.peer ≡ end.Module intf cport

-- Which request a response ends: on a clean connection the open one of its number, on another the
-- open one of its identifier.
pub data Answers (h : Hand) (n : ℕ) (b : Bus) : Type 0 where
  by_number : (result : ℕ) (payload : List ℕ) → h.item ≡ Reply n result payload
      → h.connection.clean ≡ true → is_open n b ≡ true → Answers h n b
  by_label : (label : ℕ) → h.connection.clean ≡ false
      → open_with h.connection.number h.side label b ≡ Some n → Answers h n b

-- Which request is forgotten at a response: on a clean connection the one of its number, on another
-- the one that was given up with its identifier.
pub data Forgets (h : Hand) (n : ℕ) (b : Bus) : Type 0 where
  by_number : (result : ℕ) (payload : List ℕ) → h.item ≡ Reply n result payload
      → h.connection.clean ≡ true → Forgets h n b
  by_label : (label : ℕ) → h.connection.clean ≡ false
      → given_up_with h.connection.number h.side label b ≡ Some n → Forgets h n b

-- The application processor answers as it serves, before it changes.
abbrev pub AnswersAs : Moment → Point → Hand → Incoming → Answer → Type 0
AnswersAs m a h q r = h.side ≡ side.Ap → (a.state.host ≡ m.before.host)
    × (r ≡ (host_serves h.connection.number q.kind q.payload m.before.host).answer)

-- what a response that is taken answers with
pub data Says (h : Hand) (n result : ℕ) (payload : List ℕ) : Type 0 where
  numbered : h.item ≡ Reply n result payload → Says h n result payload
  unclean : h.connection.clean ≡ false → Says h n result payload

-- A far side asks on a connection: a module, or the supervisory controller at an event that
-- concerns it.
pub data IsFarAsking (m : Moment) (c : Connection) (d : Draft) : Type 0 where
  by_module : (i p : ℕ) → c.peer ≡ end.Module i p → d.side ≡ side.Far → IsFarAsking m c d
  by_svc : IsOfSvc m.event → d.side ≡ side.Far → IsFarAsking m c d

-- Who asks on a connection at a point: the application processor does an act, and its sequence is
-- to wait for the request; or a far side asks on a connection that is wired, and with a type that a
-- request can have: the supervisory controller on its own connection or a CPort without a firmware
-- device, or a firmware device, whose download begins or goes on.
pub data IsAskedBy (m : Moment) (a : Point) (c : Connection) (d : Draft) : Type 0 where
  by_host : (q : Asking) (rest : List Act) → a.pending ≡ Act.Ask q ∷ rest
      → d ≡ host_draft q a.state.now → a.asked ≡ None → IsAskedBy m a c d
  by_far : IsFarAsking m c d → (c.wired ≡ true) × (d.kind < 128)
      → (d.connection ≡ 1) ⊎ IsUnloaded a.state c → IsAskedBy m a c d
  by_loader : (x : Going) → IsGoing m a.state c d x → IsFarAsking m c d
      → (c.wired ≡ true) × (d.kind < 128) → IsAskedBy m a c d

-- the request for which a sequence is to wait then
abbrev pub awaited_by : (m : Moment) (a : Point) (c : Connection) (d : Draft)
    → IsAskedBy m a c d → Option (Asking × ℕ)
awaited_by m a c d (by_host q rest is draft none) = Some (q, next_number a.state.bus)
awaited_by m a c d (by_far who on unloaded) = a.asked
awaited_by m a c d (by_loader x going who on) = a.asked

-- the modules then
abbrev pub modules_by : (m : Moment) (a : Point) (c : Connection) (d : Draft)
    → IsAskedBy m a c d → List Plugged
modules_by m a c d (by_host q rest is draft none) = a.state.modules
modules_by m a c d (by_far who on unloaded) = a.state.modules
modules_by m a c d (by_loader x going who on) = modules_gone x a.state.modules

-- the last requests of firmware devices then
abbrev pub loads_by : (m : Moment) (a : Point) (c : Connection) (d : Draft)
    → IsAskedBy m a c d → List Load
loads_by m a c d (by_host q rest is draft none) = a.state.loads
loads_by m a c d (by_far who on unloaded) = a.state.loads
loads_by m a c d (by_loader x going who on) =
    loads_gone x (next_number a.state.bus) a.state.loads

-- the trails of running downloads then
abbrev pub trails_by : (m : Moment) (a : Point) (c : Connection) (d : Draft)
    → IsAskedBy m a c d → List Trail
trails_by m a c d (by_host q rest is draft none) = a.state.past.loading
trails_by m a c d (by_far who on unloaded) = a.state.past.loading
trails_by m a c d (by_loader x going who on) =
    trails_gone x d.connection (next_number a.state.bus) a.state.past.loading

-- The state once a request of a draft is made.
abbrev pub state_by : (m : Moment) (a : Point) (c : Connection) (d : Draft) (label : ℕ)
    → IsAskedBy m a c d → State
state_by m a c d label who = record a.state {
  bus = sent d label a.state.bus;
  modules = modules_by m a c d who;
  loads = loads_by m a c d who;
  past = record a.state.past { loading = trails_by m a c d who };
}

-- Where the application processor takes notice of something, no request was made at the moment
-- yet, unless it is an insertion, or the end of one that wasn't answered. A sequence goes on with
-- an answer only where its request isn't awaited any more, and a connection is idle where nothing
-- is open on it.
abbrev pub IsOver : Moment → Notice → Bus → Type 0
IsOver m (at_event (host_event.Ended n how)) b =
    (result : ℕ) (payload : List ℕ) → how ≡ outcome.Answered result payload
    → (is_awaited n b ≡ false) × (b.requests ≡ m.before.bus.requests)
IsOver m (at_event (host_event.Idle k)) b = open_on k side.Ap b ≡ []
IsOver m (at_insertion p i) b = Unit {0}
IsOver m _ b = b.requests ≡ m.before.bus.requests

-- What a line asks is no request of a sequence and goes to the supervisory controller, or it is on
-- the connection of a module, where something is taken.
abbrev pub IsPlain : State → Draft → Type 0
IsPlain s d = ((is_reserved d.kind ≡ false) × (d.connection ≡ 1))
    ⊎ ((l : Link) × IsIn l s.host.links × (d.connection ≡ l.connection)
    × (state_takes l.state ≡ true))

-- what is plugged stays, and so does whether the supervisory controller has started
pub record SamePlugs (s : State) (booted : Bool) (ports : List Port) (modules : List Plugged) : Type
    0 where
  pub started : booted ≡ s.booted
  pub plugged : (i : ℕ) → plugged_at i modules ≡ plugged_at i s.modules
  pub powered : (i : ℕ) → is_powered i ports ≡ true → is_powered i s.ports ≡ true
  pub differ : EachTwo AreElsewhere s.modules → EachTwo AreElsewhere modules
  pub whole : AreWhole s.modules → AreWhole modules

-- Where power levels come from: they stay, or are those of a step of the supervisory controller's
-- table, or an interface without a wired connection loses its route.
pub data PortsFrom (m : Moment) (s : State) (ports : List Port) : Type 0 where
  as_before : ports ≡ s.ports → PortsFrom m s ports
  served : (q : Incoming) → IsServing m s q
      → ports ≡ (svc_step m.before.ports q.kind q.payload).ports → PortsFrom m s ports
  loses_route : (q : Incoming) (i : ℕ) → IsServing m s q
      → (svc_step m.before.ports q.kind q.payload).served ≡ Unroute i
      → ports ≡ unrouted i (svc_step m.before.ports q.kind q.payload).ports
      → ((c : Connection) → IsIn c s.bus.connections → is_wired_to i c ≡ false)
      → PortsFrom m s ports

-- At a moment the supervisory controller serves a request to wire a connection to a module.
pub record IsCreated (m : Moment) (s : State) (c : Connection) (i p : ℕ) : Type 0 where
  pub incoming : Incoming
  pub serving : IsServing m s incoming
  pub decides : (svc_step m.before.ports incoming.kind incoming.payload).served ≡ Create c.ap i p

-- At an event of the supervisory controller a power level stays, or is off.
abbrev pub PowersOff : State → List Port → Type 0
PowersOff s ports = (i : ℕ) → (level_of i ports ≡ level_of i s.ports) ⊎ (level_of i ports ≡ 0)

-- a hold mark stood before, or is one of a connection to a module
abbrev pub AreMarked : State → List ℕ → Type 0
AreMarked s marks = (k : ℕ) → IsIn k marks → IsIn k s.holds
    ⊎ ((c : Connection) × (i : ℕ) × (p : ℕ) × IsIn c s.bus.connections × (c.number ≡ k)
    × (c.peer ≡ end.Module i p))

-- nothing is being handled, and the application processor has nothing to do
pub record IsIdle (a : Point) : Type 0 where
  pub hand : a.hand ≡ None
  pub pending : a.pending ≡ []
  pub asked : a.asked ≡ None

-- what else changes that is no matter of requests: power levels as they do, or at an event of the
-- supervisory controller
abbrev pub IsElse : Moment → Point → Bool → List ℕ → List Port → List Plugged → Type 0
IsElse m a booted marks ports modules =
    (SamePlugs a.state booted ports modules × PortsFrom m a.state ports × IsIdle a
    × AreMarked a.state marks)
    ⊎ (IsOfSvc m.event × PowersOff a.state ports × AreMarked a.state marks)

-- A single change at a point.
pub data Change (m : Moment) (a : Point) : Type 0 where
  -- something is told that is no end, no reply, no injection and of no connection
  tells : (e : Entry) → is_silent e ≡ true → Change m a
  -- a request is made, and gets a name or none
  asks : (d : Draft) (c : Connection) (label : ℕ) → a.hand ≡ None
      → connection_of d.connection a.state.bus ≡ Some c
      → label_for d a.state.bus ≡ Some label → IsAskedBy m a c d → Change m a
  names : (name : Name) (d : Draft) (c : Connection) (label : ℕ) → a.hand ≡ None
      → connection_of d.connection a.state.bus ≡ Some c
      → label_for d a.state.bus ≡ Some label → (d.side ≡ side.Ap) × IsPlain a.state d
      × (a.pending ≡ []) × (d.kind < 128) → Change m a
  -- a name gets a request that another has, or is free
  binds : (x y : Name) (n : ℕ) → named x a.state.names ≡ Some n → Change m a
  frees : (name : Name) → Change m a
  -- the front item toward an end is taken, or a held item
  takes : (at : End) (p : Place) (item : Item) → a.hand ≡ None → a.state ≡ m.before
      → m.event ≡ event.Deliver at → place_of at m.before.bus.connections ≡ Some p
      → first (queue p.side p.connection) ≡ Some item → Change m a
  takes_held : (i c place : ℕ) (p : Place) (h : Held) → a.hand ≡ None → a.state ≡ m.before
      → m.event ≡ event.Answer i c place → module_place i c m.before ≡ Some p
      → nth place (held_on p.connection.number m.before.held) ≡ Some h → Change m a
  -- what is being handled is let go, or held, or replied to, or answers a request, or
  -- one is forgotten
  drops : Change m a
  holds : (h : Hand) → a.hand ≡ Some h → h.side ≡ side.Far → Change m a
  replies : (h : Hand) (q : Incoming) (r : Answer) → a.hand ≡ Some h
      → request_in h.item a.state.bus ≡ Some q → (q.oneway ≡ false) × AnswersAs m a h q r
      → Change m a
  answers : (h : Hand) (n result : ℕ) (payload : List ℕ) → a.hand ≡ Some h → Says h n result payload
      → Answers h n a.state.bus → Change m a
  forgets : (h : Hand) (n : ℕ) → a.hand ≡ Some h → Forgets h n a.state.bus → Change m a
  -- a request is given up
  gives_up : (n : ℕ) (how : Outcome) → a.hand ≡ None → is_open n a.state.bus ≡ true
      → IsGivenUpFor m a.state how n → Change m a
  -- a connection is wired, or unwired
  wires : (k : ℕ) → a.hand ≡ None → a.wires ≡ Untouched → (live : IsLive k false a.state.bus)
      → (is_powered live.intf a.state.ports ≡ true)
      × (nat_lt (level_of live.intf a.state.ports) 6 ≡ false)
      × IsCreated m a.state live.connection live.intf live.cport → Change m a
  unwires : (k : ℕ) → a.hand ≡ None → a.wires ≢ Wired → IsLive k true a.state.bus → Change m a
  -- bytes are injected
  injects : (i c : ℕ) (p : Place) (bytes : List ℕ) → a.hand ≡ None
      → module_place i c a.state ≡ Some p → Change m a
  -- the application processor takes notice of something
  turns : (x : Notice) → a.hand ≡ None → (a.wires ≡ Untouched) × IsOver m x a.state.bus
      → a.pending ≡ [] → IsCaused m x a.state.host → Change m a
  -- it does an act
  acts_told : (e : Entry) (rest : List Act) → a.pending ≡ Act.Tell e ∷ rest → is_quiet e ≡ true
      → Change m a
  acts_shut : (k : ℕ) (rest : List Act) → a.hand ≡ None → a.pending ≡ Act.Shut k ∷ rest
      → IsShutFor m k a.state.bus → Change m a
  acts_left : (k : ℕ) (rest : List Act) → a.hand ≡ None → a.wires ≡ Untouched
      → a.pending ≡ Act.Leave k ∷ rest → Change m a
  acts_made : (w : Making) (q : Asking) (rest : List Act) → a.hand ≡ None
      → a.pending ≡ Act.Make w q ∷ rest → Change m a
  acts_asked : (q : Asking) (n : ℕ) (rest : List Act)
      → (a.pending ≡ Act.Ask q ∷ rest) × (a.asked ≡ Some (q, n)) → Change m a
  acts_failed : (q : Asking) (rest : List Act) → IsAsking q a.pending rest
      → AreQuiet (unsent q.purpose a.state.host).told → Change m a
  -- it serves a request, or spends credits
  serves : (k kind : ℕ) (payload : List ℕ) → (a.pending ≡ []) × IsServed m k kind payload
      × (a.state.host ≡ m.before.host) → Change m a
  spends : (i c : ℕ) (what : BridgeAsk) → (a.pending ≡ []) × IsBridge m.event → Change m a
  -- time passes
  passes : (millis : ℕ) → Change m a
  -- it is remembered which request told that an interface was pulled, whose power is off
  recalls : (n i : ℕ) → IsOfSvc m.event
      → (is_some (request_of n a.state.bus) ≡ true) × (level_of i a.state.ports ≡ 0) → Change m a
  -- a firmware device's download is done, or the downloads of an interface are forgotten
  finishes : (i c : ℕ) (x : Module) (tag : List ℕ) (size : ℕ) → IsIdle a
      → HearsBack m a.state i c x (next.Done tag size) → Change m a
  unloads : (i : ℕ) → IsOfSvc m.event → module_at i a.state.modules ≡ None → Change m a
  -- the application processor is given an image
  gives : (tag bytes : List ℕ) → (a.pending ≡ []) × (m.event ≡ event.Image tag bytes)
      → image_of tag a.state.host.images ≡ None → Change m a
  -- something else changes that is no matter of requests; a firmware device's download may fail
  others : (booted : Bool) (marks : List ℕ) (ports : List Port) (modules : List Plugged)
      → IsElse m a booted marks ports modules × KeepLoaders a.state.modules modules → Change m a

-- the point after a single change
abbrev pub changed : (m : Moment) (a : Point) → Change m a → Point
changed m a (tells e quiet) = on a.state (e ∷ []) a
changed m a (asks d c label free live drawn who) =
    record (on (state_by m a c d label who) (asked_told d c label a.state.bus) a) {
      asked = awaited_by m a c d who;
    }
changed m a (names name d c label free live drawn host) =
    on (record (bound name (next_number a.state.bus) a.state) { bus = sent d label a.state.bus })
    (asked_told d c label a.state.bus) a
changed m a (binds x y n is) = on (bound y n a.state) [] a
changed m a (frees name) = on (freed name a.state) [] a
changed m a (takes at p item free start is named front) =
    record (on_bus (popped p.connection.number p.side a.state.bus) [] a) {
      hand = Some (record { connection = p.connection; side = p.side; item = item });
    }
changed m a (takes_held i c place p h free start is named held) =
    record (on (with_fewer p.connection.number place a.state) [] a) {
      hand = Some (record { connection = p.connection; side = p.side; item = h.item });
    }
changed m a drops = record a { hand = None }
changed m a (holds h is far) =
    record (on (with_held h.connection.number h.item a.state) [] a) { hand = None }
changed m a (replies h q r is made twoway) =
    record (on_bus (replied h.connection.number (other_side h.side) (reply_item q r) a.state.bus)
    (reply_entry h.side h.connection q r ∷ []) a) { hand = None }
changed m a (answers h n result payload is says open_) =
    record (on_bus (ended n (answered result payload) a.state.bus)
    (entry.Ended n (answered result payload)
    (reading_for h.side h.connection result payload (request_of n a.state.bus)) ∷ []) a)
    { hand = None }
changed m a (forgets h n is late) = record (on_bus (forgotten n a.state.bus) [] a) { hand = None }
changed m a (gives_up n how free open_ cause) =
    on_bus (gave_up n how a.state.bus) (entry.Ended n how reading.Nothing ∷ []) a
changed m a (wires k free untouched live powered) =
    record (on (with_wired k a.state) [] a) { wires = Wired }
changed m a (unwires k free unwired live) =
    record (on (with_unwired k a.state) (map disconnected_told (open_on k side.Far a.state.bus)) a)
    { wires = Unwired }
changed m a (injects i c p bytes free named) =
    on (with_injected p.connection.number bytes a.state)
    (entry.Raw (end.Module i c) (end.Ap p.connection.ap) (length bytes) bytes ∷ []) a
changed m a (turns x free untouched none cause) =
    record (on (record a.state { host = (turn_of x a.state.host).host }) [] a)
    { pending = (turn_of x a.state.host).acts }
changed m a (acts_told e rest is quiet) = record (on a.state (e ∷ []) a) { pending = rest }
changed m a (acts_shut k rest free is cause) =
    record (on_bus (shut_down k a.state.bus) (map disconnected_told (open_on k side.Ap a.state.bus))
    a) { pending = rest }
changed m a (acts_left k rest free untouched is) =
    record (on_bus (detached k a.state.bus) [] a) { pending = rest }
changed m a (acts_made w q rest free is) =
    record (on (with_made w a.state)
    (entry.Connection (next_connection a.state.bus) w.ap w.intf w.cport state.Opening ∷ []) a)
    { pending = Act.Ask q ∷ rest }
changed m a (acts_asked q n rest is) =
    record (on (with_awaited q.purpose n a.state) [] a) { pending = rest; asked = None }
changed m a (acts_failed q rest is quiet) =
    record (on (record a.state { host = (unsent q.purpose a.state.host).host })
    (unsent q.purpose a.state.host).told a) { pending = rest }
changed m a (serves k kind payload none) =
    on (record a.state { host = (host_serves k kind payload a.state.host).host }) [] a
changed m a (spends i c what none) =
    on (record a.state { host = with_link i c (spent what) a.state.host }) [] a
changed m a (passes millis) = on (record a.state { now = a.state.now + millis }) [] a
changed m a (recalls n i of made) = on (with_told n (i ∷ []) a.state) [] a
changed m a (finishes i c x tag size idle is) = on (with_done i c x a.state) [] a
changed m a (unloads i of gone) = on (unloaded i a.state) [] a
changed m a (gives tag bytes at none) =
    on (record a.state { host = with_given tag bytes a.state.host }) [] a
changed m a (others booted marks ports modules same) =
    on (record a.state { booted = booted; holds = marks; ports = ports; modules = modules }) [] a

-- ---- laws

-- A law of points within a step is kept by each single change. It says at least what
-- the basis does.
pub record Law (m : Moment) : Type 1 where
  pub holds : Point → Type 0
  pub basis : (a : Point) → holds a → Basis a
  pub kept : (a : Point) (x : Change m a) → holds a → holds (changed m a x)

-- A law upon another.
abbrev pub upon : {m : Moment} (law : Law m) (P : Point → Type 0)
    → ((a : Point) (x : Change m a) → law.holds a → P a → P (changed m a x)) → Law m
upon law P kept = record {
  holds = λ a. law.holds a × P a;
  basis = λ a h. law.basis a h.0;
  kept = λ a x h. (law.kept a x h.0, kept a x h.0 h.1);
}
