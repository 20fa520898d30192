-- When what the application processor does of its own is possible.
use Rattle.std.specs.Prelude.{◌≡◌, ◌≤◌, ◌<◌, ◌+◌, ⊤, ℕ, false, Some, is_none, List, [], ◌∷◌}
use Rattle.std.specs.Prelude.{length}
use Rattle.gb_base.specs.declared.host_event.HostEvent.{HostEvent}
use Rattle.gb_base.specs.declared.host_event.HostEvent.TheVariants as host_event
use Rattle.gb_base.specs.declared.interface.Link.{Link}
use Rattle.gb_base.specs.declared.outcome.Outcome.{Outcome}
use Rattle.gb_formats.specs.Results.{most_payload}
use Rattle.gb_invariants.specs.Attaching.{MayAttach}
use Rattle.gb_machine.specs.Bus.{Bus, connection_of}
use Rattle.gb_machine.specs.Host.{link_of}
use Rattle.gb_machine.specs.HostActs.{notices}
use Rattle.gb_machine.specs.HostTurns.{host_turn}
use Rattle.gb_machine.specs.State.{State}
use Rattle.gb_machine.specs.Turns.{Act, Asking, Making}
use Rattle.gb_machine.specs.Wiring.{detached, shut_down}

-- ---- acts

-- a request has a type that a request can have, and fits into a message
abbrev pub IsAskable : ℕ → List ℕ → Type 0
IsAskable kind payload = (kind < 128) × (length payload ≤ most_payload)

-- A connection may be made, and then its request to the supervisory controller.
pub record IsOpenable (m : Making) (q : Asking) (b : Bus) : Type 0 where
  pub attach : MayAttach m.ap m.intf m.cport b
  pub ask : IsAskable q.kind q.payload
  pub on : q.on ≡ 1
  pub intf : q.purpose.intf ≡ m.intf
  pub cport : q.purpose.cport ≡ m.cport

-- Acts only ask and tell, and their requests fit.
abbrev pub AreAsks : List Act → Type 0
AreAsks [] = ⊤
AreAsks (Act.Ask q ∷ rest) = IsAskable q.kind q.payload × AreAsks rest
AreAsks (Act.Tell e ∷ rest) = AreAsks rest
AreAsks (_ ∷ rest) = ⊥

-- Acts are possible at a bus, one after another: requests fit, and a connection that is made has
-- ends that no other has. Behind a request there are only tells and further requests, and behind
-- that of a connection that is made nothing.
abbrev pub ArePossible : List Act → Bus → Type 0
ArePossible [] b = ⊤
ArePossible (Act.Ask q ∷ rest) b = IsAskable q.kind q.payload × AreAsks rest
ArePossible (Act.Make m q ∷ rest) b = IsOpenable m q b × (rest ≡ [])
ArePossible (Act.Shut k ∷ rest) b = ArePossible rest (shut_down k b)
ArePossible (Act.Leave k ∷ rest) b = ArePossible rest (detached k b)
ArePossible (Act.Tell e ∷ rest) b = ArePossible rest b

-- ---- turns

-- the interfaces of a module that was inserted are below 32
abbrev pub AreInterfaces : HostEvent → Type 0
AreInterfaces (host_event.Inserted p count) = p + count ≤ 32
AreInterfaces _ = ⊤

-- What the application processor does where it takes notice of something is possible.
abbrev pub MayTurn : HostEvent → State → Type 0
MayTurn e s = AreInterfaces e × ArePossible (host_turn e s.host).acts s.bus

-- A connection that the application processor knows is live, and what it does where nothing is open
-- there is possible.
pub record MayIdle (k : ℕ) (s : State) : Type 0 where
  pub live : (l : Link) → link_of k s.host ≡ Some l → is_none (connection_of k s.bus) ≡ false
  pub turn : MayTurn (host_event.Idle k) s

-- What the application processor does where request n ended is possible, and so is what it does
-- then where nothing is open on a connection.
pub record MayFollow (n : ℕ) (how : Outcome) (s : State) : Type 0 where
  pub turn : MayTurn (host_event.Ended n how) s
  pub idle : (k : ℕ) → MayIdle k (notices (host_event.Ended n how) s).state
