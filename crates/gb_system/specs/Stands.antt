-- What the value of a system stands for.
use Rattle.std.specs.Prelude.{◌≡◌, ℕ, ◌==◌, ◌≤◌, ◌<◌, Bool, false, Some, Result, Ok, Err, ⊤, List}
use Rattle.std.specs.Prelude.{[], ◌∷◌, ◌++◌, is_some, length, map}
use Rattle.gb_base.specs.declared.end.Side.TheVariants as side
use Rattle.gb_base.specs.declared.entry.Entry.{Entry}
use Rattle.gb_base.specs.declared.errors.OutOfMemory.{OutOfMemory}
use Rattle.gb_base.specs.declared.event.Event.{Event}
use Rattle.gb_base.specs.declared.name.Name.{Name}
use Rattle.gb_bus.specs.Delivering.{Names, taken_from}
use Rattle.gb_bus.specs.Stands as bus
use Rattle.gb_invariants.specs.Facts.{Loose}
use Rattle.gb_formats.specs.Results.{most_payload}
use Rattle.gb_host.specs.Stands as host
use Rattle.gb_machine.specs.Bus as machine
use Rattle.gb_machine.specs.Bus.{Request, request_of}
use Rattle.gb_machine.specs.Events.{step}
use Rattle.gb_machine.specs.Holding.{held_on}
use Rattle.gb_machine.specs.Incoming.{incoming}
use Rattle.gb_machine.specs.Lists.{nth, sorted}
use Rattle.gb_machine.specs.Members.{Each}
use Rattle.gb_machine.specs.Reached.{OfARun}
use Rattle.gb_machine.specs.State.{Held, Load, Plugged, State}
use Rattle.gb_switch.specs.Stands as switch
use Rattle.gb_system.specs.Held.{held_at, is_marked}
use Rattle.gb_system.specs.NameOrder.{AreApart}
use Rattle.gb_system.specs.Showing.{pair_before}
use Rattle.gb_system.specs.declared.held.HeldRequest.{HeldRequest}
use Rattle.gb_system.specs.declared.held.HeldRequests.{HeldRequests}
use Rattle.gb_system.specs.declared.parties.Parties.{Parties}
use Rattle.gb_system.specs.declared.system.System.{System}

-- ---- the parties

-- a held request, as an item that is in no queue
abbrev pub held_item : Held → Loose
held_item h = taken_from h.connection side.Far h.item

-- the held requests, as items that are in no queue
abbrev pub held_items : State → List Loose
held_items s = map held_item s.held

-- the requests that names name, one for each name
abbrev pub names_of : State → List ℕ
names_of s = map (λ p. p.1) s.names

-- what there is of requests outside of the bus: these items, the held requests, and the names
abbrev pub around_bus : List Loose → State → bus.Around
around_bus loose s = bus.around_of (loose ++ held_items s) (names_of s)

-- a held request is one that was made: its number, identifier, type and payload
pub record StandsForHeld (requests : List Request) (x : HeldRequest) (h : Held) : Type 0 where
  pub number : ℕ
  pub request : Request
  pub item_is : h.item ≡ machine.Ask number
  pub made : nth number requests ≡ Some request
  pub names : Names x.asked (incoming number request)
  pub payload_is : x.payload ≡ request.payload

-- held requests stand for the machine's in order
abbrev pub StandForHeld : List Request → List HeldRequest → List Held → Type 0
StandForHeld requests [] [] = ⊤
StandForHeld requests (x ∷ xs) (h ∷ hs) = StandsForHeld requests x h × StandForHeld requests xs hs
StandForHeld requests [] (h ∷ hs) = ⊥
StandForHeld requests (x ∷ xs) [] = ⊥

-- those of each connection stand for the machine's there
abbrev pub HeldStand : List Request → HeldRequests → List Held → Type 0
HeldStand requests x hs = (k : ℕ) → StandForHeld requests (held_at x k) (held_on k hs)

-- A request has a type that a request can have, fits into a message, has an identifier exactly
-- where it gets a reply, and gets one where the application processor made it.
pub record IsSound (r : Request) : Type 0 where
  pub kind : r.kind < 128
  pub fits : length r.payload ≤ most_payload
  pub label : (r.label == 0) ≡ r.oneway
  pub twoway : r.side ≡ side.Ap → r.oneway ≡ false

-- each request that was made is such
abbrev pub AreSound : machine.Bus → Type 0
AreSound b = (n : ℕ) (r : Request) → request_of n b ≡ Some r → IsSound r

-- the manifest of a module fits into a message
abbrev pub IsShort : Plugged → Type 0
IsShort p = length p.body.manifest ≤ most_payload

-- The requests of a bus are sound, and those that are held are among them.
pub record RequestsStand (x : HeldRequests) (b : machine.Bus) (hs : List Held) : Type 0 where
  pub sound : AreSound b
  pub held : HeldStand b.requests x hs

-- The same modules are plugged, with the same last requests, and their manifests fit.
pub record PluggedStand (x : List Plugged) (last : List Load) (ms : List Plugged) (ls : List Load)
    : Type 0 where
  pub modules : ms ≡ x
  pub loads : ls ≡ last
  pub short : Each IsShort ms

-- The same names are there, in their order and each once.
pub record NamesStand (x ns : List (Name × ℕ)) : Type 0 where
  pub listed : sorted pair_before ns ≡ x
  pub apart : AreApart ns

-- What few actions change: whether there was a start, the time, and the hold marks.
pub record RestStands (begun : Bool) (clock : ℕ) (marks : List ℕ) (b : Bool) (now : ℕ)
    (ks : List ℕ) : Type 0 where
  pub booted : b ≡ begun
  pub time : now ≡ clock
  pub holds : (k : ℕ) → is_marked k ks ≡ is_marked k marks

-- The parties stand for this state, part by part, with these items in no queue besides those that
-- are held. What the past was is no matter of theirs.
pub record PartsStand (loose : List Loose) (x : Parties) (s : State) : Type 0 where
  pub bus : bus.Stands (around_bus loose s) x.bus s.bus
  pub requests : RequestsStand x.held s.bus s.held
  pub ports : switch.Stands x.ladder s.ports
  pub plugged : PluggedStand x.modules x.loads s.modules s.loads
  pub host : host.Stands x.host s.host
  pub names : NamesStand x.names s.names
  pub rest : RestStands x.booted x.time x.holds s.booted s.now s.holds

-- The parties stand for a state that some run of valid events leads to.
pub record PartiesStand (x : Parties) (s : State) : Type 0 where
  pub parts : PartsStand [] x s
  pub run : OfARun s

-- The entries are the machine's, and the parties stand for the parts of the state after its step.
abbrev pub PartsStep : Parties → State → Event → List Entry → Type 0
PartsStep new s e entries = (entries ≡ (step s e).entries) × PartsStand [] new (step s e).state

-- ---- the system

-- how many events were stepped
abbrev pub taken_of : System → ℕ
taken_of x = x.taken

-- whether a step found no memory
abbrev pub has_failed : System → Bool
has_failed x = is_some x.failed

-- A system stands for the states for which its parties do.
abbrev pub Stands : System → State → Type 0
Stands x s = PartiesStand x.parties s

-- The entries are the machine's, and the system stands for the state after its step.
abbrev pub StepsTo : System → State → Event → List Entry → Type 0
StepsTo new s e entries = (entries ≡ (step s e).entries) × Stands new (step s e).state

-- A step is the machine's. After want of memory nothing is said.
abbrev pub StepsAs : System → State → Event → Result (List Entry) OutOfMemory → Type 0
StepsAs new s e (Ok entries) = StepsTo new s e entries
StepsAs new s e (Err refused) = ⊤
