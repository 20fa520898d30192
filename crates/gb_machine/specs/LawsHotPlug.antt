-- Laws of runs: what stands once a module was removed, whose messages are handled, and when a
-- connection is wired.
use Rattle.std.specs.Prelude.{◌≡◌, ◌≤◌, ◌≢◌, ◌⊎◌, ℕ, ◌==◌, Bool, true, false, if◌then◌else◌}
use Rattle.std.specs.Prelude.{Option, Some, None, option_map, Result, Ok, Err, List, [], ◌∷◌, ◌++◌}
use Rattle.std.specs.Prelude.{is_some, length}
use Rattle.gb_base.specs.declared.end.End.{End}
use Rattle.gb_base.specs.declared.end.End.TheVariants as end
use Rattle.gb_base.specs.declared.end.Side.{Side}
use Rattle.gb_base.specs.declared.end.Side.TheVariants as side
use Rattle.gb_base.specs.declared.entry.ConnState.{ConnState}
use Rattle.gb_base.specs.declared.entry.ConnState.TheVariants as state
use Rattle.gb_base.specs.declared.entry.Entry.{Entry}
use Rattle.gb_base.specs.declared.entry.Entry.TheVariants as entry
use Rattle.gb_base.specs.declared.event.Event.TheVariants as event
use Rattle.gb_base.specs.declared.reasons.RawFault.{RawFault}
use Rattle.gb_base.specs.declared.outcome.Outcome.TheVariants as outcome
use Rattle.gb_formats.specs.Message.{Message, message_size, request, response, spelling}
use Rattle.gb_formats.specs.SvcRecords.{SvcAsk, read_svc_ask}
use Rattle.gb_formats.specs.Wire.{raw_message}
use Rattle.gb_machine.specs.Arriving.{dropped}
use Rattle.gb_machine.specs.Bus.{Ask, Bus, Connection, Item, Place, Raw, RawReply, Reply, Request}
use Rattle.gb_machine.specs.Bus.{connection_of, end_of, is_open, other_side, place_of, queue}
use Rattle.gb_machine.specs.Bus.{request_of}
use Rattle.gb_machine.specs.Holding.{held_on}
use Rattle.gb_machine.specs.Host.{interface_of}
use Rattle.gb_machine.specs.Incoming.{Incoming, request_in}
use Rattle.gb_machine.specs.Lists.{behind_first, first}
use Rattle.gb_machine.specs.Members.{Each, IsIn, times}
use Rattle.gb_machine.specs.Modules.{is_plugged}
use Rattle.gb_machine.specs.Ports.{level_of}
use Rattle.gb_machine.specs.Refusals.{refusal}
use Rattle.gb_machine.specs.Runs.{HoldsAtEachMoment, HoldsThroughout, Moment, after, told_at}
use Rattle.gb_machine.specs.Sending.{is_wired}
use Rattle.gb_machine.specs.State.{Held, State}
use Rattle.gb_machine.specs.SvcQueues.{HandlesInsertion, HandlesRemoval, is_reply_to, svc_items}
use Rattle.gb_machine.specs.Wiring.{is_at}

-- ---- nothing left after a removal

-- No live connection names an interface that is absent.
abbrev pub AbsentIsUnconnected : List Entry → State → Type 0
AbsentIsUnconnected told s =
    (i : ℕ) → interface_of i s.host ≡ None → Each (λ c. is_at i c.peer ≡ false) s.bus.connections

-- Each open request of the application processor is on a live connection, and its side of that
-- isn't closed.
abbrev pub OpenIsLive : List Entry → State → Type 0
OpenIsLive told s =
    (n : ℕ) (r : Request) → request_of n s.bus ≡ Some r → is_open n s.bus ≡ true
    → r.side ≡ side.Ap
    → (c : Connection) × (connection_of r.connection s.bus ≡ Some c) × (c.shut ≡ false)

-- An interface is absent once its removal is handled, until its insertion is handled.
pub record AbsentBetween (m : Moment) : Type 0 where
  pub removed : (i : ℕ) → HandlesRemoval i m → interface_of i (after m).host ≡ None
  pub inserted : (i : ℕ) → interface_of i m.before.host ≡ None
      → is_some (interface_of i (after m).host) ≡ true → HandlesInsertion i m

-- Once the removal of an interface is handled it is absent until its insertion is handled. No live
-- connection names it meanwhile.
abbrev pub AbsentAfterRemoval : Type 0
AbsentAfterRemoval = HoldsThroughout AbsentIsUnconnected × HoldsAtEachMoment AbsentBetween

-- no open request is on a connection that ever named an interface
abbrev pub HasNoOpen : ℕ → List Entry → State → Type 0
HasNoOpen i told s =
    (k ap c n : ℕ) (state : ConnState) (r : Request)
    → IsIn (entry.Connection k ap i c state) told
    → request_of n s.bus ≡ Some r → r.connection ≡ k → is_open n s.bus ≡ false

-- a connection was told as opening, between its ends
abbrev pub WasOpened : List Entry → Connection → Type 0
WasOpened told c =
    (i : ℕ) × (cport : ℕ) × (c.peer ≡ end.Module i cport)
    × IsIn (entry.Connection c.number c.ap i cport state.Opening) told

-- Each live connection but that of the supervisory controller was told as opening. So each that
-- ever named an interface was told to name it.
abbrev pub WereOpened : List Entry → State → Type 0
WereOpened told s = Each (λ c. c.number ≢ 1 → WasOpened told c) s.bus.connections

-- nothing that was asked on a connection that named an absent interface is open
abbrev pub AbsentHasNoOpen : List Entry → State → Type 0
AbsentHasNoOpen told s = (i : ℕ) → interface_of i s.host ≡ None → HasNoOpen i told s

-- Once the removal of an interface is handled, nothing on it is open, until it is inserted again.
pub record NothingLeftAfterRemoval : Type 0 where
  pub absent : AbsentAfterRemoval
  pub opened : HoldsThroughout WereOpened
  pub closed : HoldsThroughout AbsentHasNoOpen
  pub live : HoldsThroughout OpenIsLive

-- ---- no foreign message

-- request n was told as asked on a connection, by this side, and wasn't lost
abbrev pub IsAskedOn : Connection → Side → ℕ → List Entry → Bus → Type 0
IsAskedOn c at n told b =
    (r : Request) × (request_of n b ≡ Some r) × (r.connection ≡ c.number) × (r.side ≡ at)
    × IsIn (entry.Asked n (end_of at c) (end_of (other_side at) c) r.kind
    (message_size r.payload) (spelling (request r.label r.kind r.payload)) false) told

-- the reply to request n was told on a connection, toward a side
abbrev pub IsRepliedOn : Connection → Side → ℕ → ℕ → List ℕ → List Entry → Bus → Type 0
IsRepliedOn c at n result payload told b =
    (r : Request) × (request_of n b ≡ Some r) × (r.connection ≡ c.number) × (r.side ≡ at)
    × IsIn (entry.Replied (Some n) (end_of (other_side at) c) (end_of at c) result
    (message_size payload) (spelling (response r.label r.kind result payload))) told

-- what was told since connection k was opened
abbrev pub told_since : ℕ → List Entry → List Entry
told_since k [] = []
told_since k (entry.Connection j ap i c state.Opening ∷ es) =
    if j == k then es else told_since k es
told_since k (_ ∷ es) = told_since k es

-- An item toward a side of a connection was put there by a request, a reply or an injection on that
-- connection. Injected bytes and the reply to them have no number: they were told since the
-- connection was opened, between its ends, which no other has meanwhile.
abbrev pub IsOwnItem : List Entry → Bus → Connection → Side → Item → Type 0
IsOwnItem told b c at (Ask n) = IsAskedOn c (other_side at) n told b
IsOwnItem told b c at (Reply n result payload) = IsRepliedOn c at n result payload told b
IsOwnItem told b c at (Raw bytes) =
    (at ≡ side.Ap)
    × IsIn (entry.Raw c.peer (end.Ap c.ap) (length bytes) bytes) (told_since c.number told)
IsOwnItem told b c at (RawReply label kind result payload) =
    (at ≡ side.Far) × IsIn (entry.Replied None (end.Ap c.ap) c.peer result
    (message_size payload) (spelling (response label kind result payload)))
    (told_since c.number told)

-- what waits and what is held on a connection
pub record HasOwnItems (told : List Entry) (s : State) (c : Connection) : Type 0 where
  pub to_ap : Each (IsOwnItem told s.bus c side.Ap) c.to_ap
  pub to_far : Each (IsOwnItem told s.bus c side.Far) c.to_far
  pub held : Each (λ (h : Held). IsOwnItem told s.bus c side.Far h.item) (held_on c.number s.held)

-- what waits and what is held on each connection is its own
abbrev pub HaveOwnItems : List Entry → State → Type 0
HaveOwnItems told s = Each (HasOwnItems told s) s.bus.connections

-- the identifier of a message that came as raw bytes
abbrev pub raw_label : Result Message RawFault → Option ℕ
raw_label (Ok m) = Some m.id
raw_label (Err fault) = None

-- the identifier of the response that an item is
abbrev pub label_in : Item → Bus → Option ℕ
label_in (Ask n) b = None
label_in (Reply n result payload) b = option_map (λ r. r.label) (request_of n b)
label_in (Raw bytes) b = raw_label (raw_message bytes)
label_in (RawReply label kind result payload) b = Some label

-- an item is a request with this number, none where it came as raw bytes
abbrev pub IsRequest : Item → Bus → Option ℕ → Type 0
IsRequest item b n = (q : Incoming) × (request_in item b ≡ Some q) × (q.number ≡ n)

-- an item is a unidirectional request
abbrev pub IsOneway : Item → Bus → Type 0
IsOneway item b = (q : Incoming) × (request_in item b ≡ Some q) × (q.oneway ≡ true)

-- An item toward a place answers request n, which was made there and has its identifier. On a clean
-- connection the item has its number.
pub record IsAnswerTo (p : Place) (item : Item) (b : Bus) (n : ℕ) : Type 0 where
  pub request : Request
  pub made : request_of n b ≡ Some request
  pub connection : request.connection ≡ p.connection.number
  pub side : request.side ≡ p.side
  pub label : label_in item b ≡ Some request.label
  pub number : p.connection.clean ≡ true → is_reply_to n item ≡ true

-- An entry tells what became of this item, which was taken toward this place.
abbrev pub IsToldOf : Place → Item → Bus → Entry → Type 0
IsToldOf p item b (entry.Dropped n reply) = entry.Dropped n reply ≡ dropped item
IsToldOf p item b (entry.Held n) = IsRequest item b n
IsToldOf p item b (entry.Replied n from to result size bytes) =
    IsRequest item b n × (from ≡ end_of p.side p.connection)
    × (to ≡ end_of (other_side p.side) p.connection)
IsToldOf p item b (entry.Ignored kind) =
    (q : Incoming) × (request_in item b ≡ Some q) × (q.kind ≡ kind)
IsToldOf p item b (entry.Ended n (outcome.Answered result payload) read) = IsAnswerTo p item b n
IsToldOf p item b (entry.Late n) = IsAnswerTo p item b n
IsToldOf p item b (entry.LateLabel label) = label_in item b ≡ Some label
IsToldOf p item b (entry.UnknownLabel label) = label_in item b ≡ Some label
IsToldOf p item b (entry.BadRaw fault) =
    (bytes : List ℕ) × (item ≡ Raw bytes) × (raw_message bytes ≡ Err fault)
IsToldOf p item b (entry.Irq i c line) = p.connection.peer ≡ end.Module i c
IsToldOf p item b (entry.Received i c bytes) = p.connection.peer ≡ end.Module i c
IsToldOf p item b (entry.Serial i c control) = p.connection.peer ≡ end.Module i c
IsToldOf p item b (entry.Credits i c total) = p.connection.peer ≡ end.Module i c
IsToldOf p item b _ = ⊥

-- An entry tells what a message brings about: a request, the end of one by a disconnection or at
-- once, an interface, a manifest, a connection or the end of a download.
abbrev pub is_consequence : Entry → Bool
is_consequence (entry.Asked n from to kind size bytes lost) = true
is_consequence (entry.Ended n outcome.Disconnected read) = true
is_consequence (entry.Ended n outcome.Sent read) = true
is_consequence (entry.Interface i stage) = true
is_consequence (entry.Manifest i at why) = true
is_consequence (entry.Connection k ap i c state) = true
is_consequence (entry.Download i c tag size) = true
is_consequence _ = false

-- The front item toward a place is gone after a moment: the connection is live and wired still, and
-- what stood behind that item waits there, in front of what came since.
pub record IsTakenOff (m : Moment) (p : Place) : Type 0 where
  pub connection : Connection
  pub more : List Item
  pub live : connection_of p.connection.number (after m).bus ≡ Some connection
  pub wired : connection.wired ≡ true
  pub left : queue p.side connection ≡ behind_first (queue p.side p.connection) ++ more

-- A delivery takes the front item toward its end, from a connection that is live, wired and names
-- the end, and it is gone then. Each entry behind `done` tells what became of that item or what the
-- item brings about. One tells the former, unless the item is a unidirectional request.
pub record TakesItem (m : Moment) (at : End) : Type 0 where
  pub place : Place
  pub item : Item
  pub named : place_of at m.before.bus.connections ≡ Some place
  pub live : IsIn place.connection m.before.bus.connections
  pub wired : place.connection.wired ≡ true
  pub is : end_of place.side place.connection ≡ at
  pub front : first (queue place.side place.connection) ≡ Some item
  pub entries : List Entry
  pub done : told_at m ≡ entry.Done ∷ entries
  pub told : Each (λ e. IsToldOf place item m.before.bus e ⊎ is_consequence e ≡ true) entries
  pub says : IsOneway item m.before.bus
      ⊎ ((e : Entry) × IsIn e entries × IsToldOf place item m.before.bus e)
  pub gone : IsTakenOff m place

-- A delivery that isn't refused takes its item so.
abbrev pub TakesFromItsConnection : Moment → Type 0
TakesFromItsConnection m =
    (at : End) → m.event ≡ event.Deliver at → refusal m.before m.event ≡ None → TakesItem m at

-- No end handles a message of another connection.
abbrev pub NoForeignMessage : Type 0
NoForeignMessage = HoldsThroughout HaveOwnItems × HoldsAtEachMoment TakesFromItsConnection

-- ---- wired at most once

-- A connection is wired at most once, and each that is wired was remembered then. That of the
-- supervisory controller is wired from the first.
pub record WiredOnce (told : List Entry) (s : State) : Type 0 where
  pub once : (k : ℕ) → times (λ j. j == k) s.past.wired ≤ 1
  pub remembered : Each (λ c. c.wired ≡ true → c.number ≢ 1 → IsIn c.number s.past.wired)
      s.bus.connections

-- At a moment connection k is wired by its own request, while a module is plugged at its interface,
-- which is routed.
pub record IsOwnCreation (m : Moment) (k : ℕ) : Type 0 where
  pub number : ℕ
  pub request : Request
  pub connection : Connection
  pub intf : ℕ
  pub cport : ℕ
  pub is : m.event ≡ event.Deliver end.Svc
  pub front : first (svc_items side.Far m.before.bus) ≡ Some (Ask number)
  pub made : request_of number m.before.bus ≡ Some request
  pub creates : (tc : ℕ) × (flags : ℕ) × (read_svc_ask request.kind request.payload
      ≡ Ok (SvcAsk.ConnCreate 1 connection.ap intf cport tc flags))
  pub own : IsIn (number, k) m.before.past.made_for
  pub live : connection_of k m.before.bus ≡ Some connection
  pub peer : connection.peer ≡ end.Module intf cport
  pub plugged : is_plugged intf m.before.modules ≡ true
  pub routed : level_of intf m.before.ports ≡ 6
  pub first : times (λ j. j == k) m.before.past.wired ≡ 0
  pub remembered : IsIn k (after m).past.wired

-- What is wired at a moment is wired by its own request.
abbrev pub WiredByItsRequest : Moment → Type 0
WiredByItsRequest m =
    (k : ℕ) → is_wired (connection_of k m.before.bus) ≡ false
    → is_wired (connection_of k (after m).bus) ≡ true → IsOwnCreation m k

-- Which connections were ever wired is never forgotten.
abbrev pub NoneForgotten : Moment → Type 0
NoneForgotten m = Each (λ k. IsIn k (after m).past.wired) m.before.past.wired

-- A request is remembered for one connection.
abbrev pub RememberedForOne : List Entry → State → Type 0
RememberedForOne told s =
    (n k j : ℕ) → IsIn (n, k) s.past.made_for → IsIn (n, j) s.past.made_for → k ≡ j

-- A request is made at a moment, and a connection is live then.
pub record IsMadeWhileLive (m : Moment) (n k : ℕ) : Type 0 where
  pub unmade : request_of n m.before.bus ≡ None
  pub made : is_some (request_of n (after m).bus) ≡ true
  pub live : is_some (connection_of k (after m).bus) ≡ true

-- What is remembered at a moment is of a request that is made then, for a connection that
-- is live then.
abbrev pub RememberedWhileLive : Moment → Type 0
RememberedWhileLive m =
    Each (λ (p : ℕ × ℕ). IsIn p m.before.past.made_for ⊎ IsMadeWhileLive m p.0 p.1)
    (after m).past.made_for

-- A connection is wired at most once, by its own request, to a module that is plugged and routed.
-- Its own request was made while it was live, and is no other's.
pub record WiredAtMostOnce : Type 0 where
  pub once : HoldsThroughout WiredOnce
  pub own : HoldsAtEachMoment WiredByItsRequest
  pub kept : HoldsAtEachMoment NoneForgotten
  pub one : HoldsThroughout RememberedForOne
  pub live : HoldsAtEachMoment RememberedWhileLive
