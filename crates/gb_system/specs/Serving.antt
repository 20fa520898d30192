-- What becomes of a request that is delivered.
use Rattle.std.specs.Prelude.{◌≡◌, ℕ, true, Option, Some, None, if◌then◌else◌, ⊤, List, [], ◌∷◌}
use Rattle.gb_base.specs.declared.end.End.{End}
use Rattle.gb_base.specs.declared.end.End.TheVariants as end
use Rattle.gb_base.specs.declared.end.Side.{Side}
use Rattle.gb_base.specs.declared.end.Side.TheVariants as side
use Rattle.gb_base.specs.declared.entry.Entry.{Entry}
use Rattle.gb_base.specs.declared.host_event.HostEvent.{HostEvent}
use Rattle.gb_bus.specs.Delivering.{Names, taken_from}
use Rattle.gb_bus.specs.declared.answers.Asked.{Asked}
use Rattle.gb_invariants.specs.Facts.{Loose, is_numbered}
use Rattle.gb_machine.specs.Bus.{Connection, Item, end_of}
use Rattle.gb_machine.specs.Delivery.{replied}
use Rattle.gb_machine.specs.HostServing.{HostServed, host_serves}
use Rattle.gb_machine.specs.Incoming.{Incoming, reply_item, request_in}
use Rattle.gb_machine.specs.Responding.{serves}
use Rattle.gb_machine.specs.State.{State}
use Rattle.gb_laws.specs.Possible.{MayTurn}
use Rattle.gb_system.specs.Doing.{Does}
use Rattle.gb_system.specs.Drafts.{IsUpon}
use Rattle.gb_system.specs.Stands.{PartsStand}
use Rattle.gb_system.specs.declared.parties.Parties.{Parties}

-- the side of a connection that is at an end
abbrev pub side_of : End → Side
side_of (end.Ap a) = side.Ap
side_of end.Svc = side.Far
side_of (end.Module i c) = side.Far

-- what was taken at a side of a connection, as the one item that is in no queue
abbrev pub only : ℕ → Side → Item → List Loose
only k at item = taken_from k at item ∷ []

-- A request was delivered at an end, on connection k, by this item, and is to be served. What comes
-- to a far end has a number: raw bytes only come to the application processor.
pub record IsDelivered (at : End) (k : ℕ) (asked : Asked) (payload : List ℕ) (s : State)
    (c : Connection) (item : Item) : Type 0 where
  pub request : Incoming
  pub is : request_in item s.bus ≡ Some request
  pub names : Names asked request
  pub payload_is : payload ≡ request.payload
  pub upon : IsUpon k s.bus c
  pub there : end_of (side_of at) c ≡ at
  pub numbered : side_of at ≡ side.Far → is_numbered item ≡ true

-- the state once the application processor served a request, before it takes notice of anything
abbrev pub after_serving : Connection → Incoming → HostServed → State → State
after_serving c q served s = record s {
  bus = if q.oneway then s.bus
      else replied c.number side.Far (reply_item q served.answer) s.bus;
  host = served.host;
}

-- what is noticed, if anything, is possible
abbrev pub MayNotice : Option HostEvent → State → Type 0
MayNotice None s = ⊤
MayNotice (Some e) s = MayTurn e s

-- What the application processor takes notice of at a request is possible for it.
abbrev pub MayServe : Side → Connection → Incoming → State → Type 0
MayServe side.Far c q s = ⊤
MayServe side.Ap c q s =
    let served = host_serves c.number q.kind q.payload s.host in
    MayNotice served.notices (after_serving c q served s)

-- A request that was delivered at an end is served as the machine does.
abbrev pub ServesAt : End → Parties → Parties → ℕ → Asked → List ℕ → List Entry → List Entry
    → Type 0
ServesAt at old new k asked payload before told =
    (s : State) (c : Connection) (item : Item) → (d : IsDelivered at k asked payload s c item)
    → PartsStand (only k (side_of at) item) old s
    → MayServe (side_of at) c d.request s
    → Does new (serves (side_of at) c d.request) s before told

-- an entry, where there is one
abbrev pub told_of : Option Entry → List Entry
told_of None = []
told_of (Some e) = e ∷ []
