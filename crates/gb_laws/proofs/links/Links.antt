-- Facts of the application processor's connections, as they go with the bus.
use Rattle.std.proofs.Common.{Bool, List, None, Some, false, true, ℕ, [], ◌<◌, ◌∷◌, ◌≡◌, ◌≢◌, ◌≤◌}
use Rattle.std.specs.List.{find}
use Rattle.gb_base.specs.declared.end.End.TheVariants as end
use Rattle.gb_base.specs.declared.entry.ConnState.{ConnState}
use Rattle.gb_base.specs.declared.entry.ConnState.TheVariants as state
use Rattle.gb_base.specs.declared.interface.{Interface.Interface, Link.Link}
use Rattle.gb_base.specs.declared.steps.{Purpose.Purpose, SequenceStep.SequenceStep}
use Rattle.gb_base.specs.declared.steps.SequenceStep.TheVariants as steps
use Rattle.gb_machine.specs.SequenceSteps.{Target, asks_control, is_enumeration, kind_of}
use Rattle.gb_machine.specs.SequenceSteps.{payload_of}
use Rattle.gb_machine.specs.Turns.{Act, Asking, Making}
use Rattle.gb_machine.specs.{Arriving.state_takes, Bus.Bus, Bus.Connection, Host.Host}
use Rattle.gb_machine.specs.{Host.is_draining, Host.is_link}
use Rattle.gb_machine.specs.{Members.EachTwo, Members.IsIn}

-- ---- one connection

-- the state of a connection while a step of its connect or close goes on
abbrev pub IsAtStep : SequenceStep → ConnState → Type 0
IsAtStep steps.CreateConnection s = s ≡ state.Opening
IsAtStep steps.TellConnected s = s ≡ state.Opening
IsAtStep steps.TellDisconnecting s = s ≡ state.Closing
IsAtStep steps.TellDisconnected s = s ≡ state.Closing
IsAtStep steps.DestroyConnection s = s ≡ state.Closing
IsAtStep _ s = ⊥

-- A connection that a sequence waits on isn't Control, and is opening or closing as that is.
abbrev pub IsWaiting : Link → Type 0
IsWaiting l = (w : ℕ × SequenceStep) → l.awaits ≡ Some w → (l.cport ≢ 0) × IsAtStep w.1 l.state

-- a step of an enumeration before its Control connection is made
abbrev pub is_early : SequenceStep → Bool
is_early steps.EnableVsys = true
is_early steps.EnableRefclk = true
is_early steps.EnableUnipro = true
is_early steps.Activate = true
is_early steps.GiveDevice = true
is_early steps.CreateRoute = true
is_early _ = false

-- an interface has no Control connection
abbrev pub HasNoControl : ℕ → List Link → Type 0
HasNoControl i ls = (l : Link) → IsIn l ls → is_link i 0 l ≡ false

-- An interface waits for steps of its enumeration, with no Control connection before that is made.
abbrev pub IsEnumerating : List Link → Interface → Type 0
IsEnumerating ls x = (w : ℕ × SequenceStep) → x.awaits ≡ Some w
    → (is_enumeration w.1 ≡ true) × (is_early w.1 ≡ true → HasNoControl x.intf ls)

-- an interface is known
pub record IsPresent (i : ℕ) (xs : List Interface) : Type 0 where
  pub interface : Interface
  pub known : IsIn interface xs
  pub is : interface.intf ≡ i

-- an interface waits for nothing
abbrev pub IsResting : ℕ → List Interface → Type 0
IsResting i xs = (x : Interface) → IsIn x xs → x.intf ≡ i → x.awaits ≡ None

-- A connection isn't Control, and nothing is taken there.
pub record IsDeaf (l : Link) : Type 0 where
  pub cport : l.cport ≢ 0
  pub takes : state_takes l.state ≡ false

-- A connection that drains isn't Control.
abbrev pub DrainsPlain : Link → Type 0
DrainsPlain l = is_draining l.state ≡ true → l.cport ≢ 0

-- a connection has a number that was given, and a CPort of the application processor from
-- 1 to 4,095
pub record IsNumbered (made : ℕ) (l : Link) : Type 0 where
  pub from_two : 2 ≤ l.connection
  pub given : l.connection ≤ made
  pub from_one : 1 ≤ l.ap
  pub within : l.ap ≤ 4095
  pub cport : l.cport ≤ 4095

-- One comes before another: numbers rise, and the ends differ.
pub record IsLinkBefore (l k : Link) : Type 0 where
  pub number : l.connection < k.connection
  pub ap : l.ap ≢ k.ap
  pub apart : is_link l.intf l.cport k ≡ false

-- ---- all of them

-- The connections that the application processor knows, beside the bus.
pub record LinksFit (b : Bus) (ls : List Link) : Type 0 where
  pub rise : EachTwo IsLinkBefore ls
  pub numbered : (l : Link) → IsIn l ls → IsNumbered b.made l
  pub waiting : (l : Link) → IsIn l ls → IsWaiting l
  pub deaf : (l : Link) (c : Connection) → IsIn l ls → IsIn c b.connections
      → c.number ≡ l.connection → c.shut ≡ true → IsDeaf l
  pub draining : (l : Link) → IsIn l ls → DrainsPlain l

-- what is known of interfaces
abbrev pub AreEnumerating : List Link → List Interface → Type 0
AreEnumerating ls xs = (x : Interface) → IsIn x xs → IsEnumerating ls x

-- two interfaces differ
abbrev pub AreOther : Interface → Interface → Type 0
AreOther x y = x.intf ≢ y.intf

-- The application processor, beside the bus.
pub record HostFits (b : Bus) (h : Host) : Type 0 where
  pub links : LinksFit b h.links
  pub interfaces : AreEnumerating h.links h.interfaces
  pub differ : EachTwo AreOther h.interfaces
  pub present : (l : Link) → IsIn l h.links → IsPresent l.intf h.interfaces

-- ---- steps that are due

-- where a step of a connect or close is due, the connection waits for nothing
pub record IsDueOnLink (step : SequenceStep) (p : Purpose) (ls : List Link) : Type 0 where
  pub cport : p.cport ≢ 0
  pub idle : (l : Link) → find (is_link p.intf p.cport) ls ≡ Some l → l.awaits ≡ None
  pub state : (l : Link) → find (is_link p.intf p.cport) ls ≡ Some l → IsAtStep step l.state

-- where a step of an enumeration is due, its interface is known and waits for nothing
pub record IsNext (step : SequenceStep) (p : Purpose) (h : Host) : Type 0 where
  pub cport : p.cport ≡ 0
  pub none : is_early step ≡ true → HasNoControl p.intf h.links
  pub idle : IsResting p.intf h.interfaces
  pub present : IsPresent p.intf h.interfaces

abbrev pub IsDueBy : Bool → SequenceStep → Purpose → Host → Type 0
IsDueBy true step p h = IsNext step p h
IsDueBy false step p h = IsDueOnLink step p h.links

-- A step is due.
abbrev pub IsDue : SequenceStep → Purpose → Host → Type 0
IsDue step p h = IsDueBy (is_enumeration step) step p h

-- ---- acts that are pending

-- A request of a step: it has the type and payload of that, speaks of its interface and CPort, and
-- goes on the supervisory controller's connection, unless it goes to a module's Control.
pub record IsFormed (q : Asking) : Type 0 where
  pub target : Target
  pub kind : q.kind ≡ kind_of q.purpose.step
  pub payload : q.payload ≡ payload_of q.purpose.step target
  pub intf : target.intf ≡ q.purpose.intf
  pub cport : target.cport ≡ q.purpose.cport
  pub created : q.purpose.step ≡ steps.CreateConnection → (target.cport ≢ 0) × (target.cport ≤ 4095)
  pub on : asks_control q.purpose.step ≡ false → q.on ≡ 1
  pub control : asks_control q.purpose.step ≡ true → 2 ≤ q.on

-- The step with which the connection of a CPort is made.
pub data IsMaking (c : ℕ) : SequenceStep → Type 0 where
  control : c ≡ 0 → IsMaking c steps.CreateControl
  connection : c ≢ 0 → IsMaking c steps.CreateConnection

-- A connection may be made: its interface is known, and no other connection has its ends.
pub record IsFree (w : Making) (q : Asking) (h : Host) : Type 0 where
  pub step : IsMaking w.cport q.purpose.step
  pub intf : q.purpose.intf ≡ w.intf
  pub cport : q.purpose.cport ≡ w.cport
  pub from_one : 1 ≤ w.ap
  pub within : w.ap ≤ 4095
  pub cport_within : w.cport ≤ 4095
  pub ap : (l : Link) → IsIn l h.links → l.ap ≢ w.ap
  pub at : (l : Link) → IsIn l h.links → is_link w.intf w.cport l ≡ false
  pub idle : w.cport ≡ 0 → IsResting w.intf h.interfaces
  pub present : IsPresent w.intf h.interfaces
  pub formed : IsFormed q

-- a request to a module's Control goes on its Control connection
abbrev pub IsOnControl : Host → Asking → Type 0
IsOnControl h q = asks_control q.purpose.step ≡ true
    → (l : Link) × IsIn l h.links × (l.connection ≡ q.on) × (l.cport ≡ 0)

-- an act that is pending, with those behind it
abbrev pub IsPending : Host → Act → List Act → Type 0
IsPending h (Act.Ask q) rest =
    IsDue q.purpose.step q.purpose h × (rest ≡ []) × IsFormed q × IsOnControl h q
IsPending h (Act.Make w q) rest = IsFree w q h × (rest ≡ [])
IsPending h (Act.Shut k) rest =
    (2 ≤ k) × ((l : Link) → IsIn l h.links → l.connection ≡ k → IsDeaf l)
IsPending h (Act.Leave k) rest = (2 ≤ k) × ((l : Link) → IsIn l h.links → l.connection ≢ k)
IsPending h (Act.Tell e) rest = Unit {0}

-- The acts that are pending.
abbrev pub ArePending : Host → List Act → Type 0
ArePending h [] = Unit {0}
ArePending h (x ∷ xs) = IsPending h x xs × ArePending h xs

-- ---- turns

-- what of a connection never changes
pub record SameLink (l k : Link) : Type 0 where
  pub connection : k.connection ≡ l.connection
  pub ap : k.ap ≡ l.ap
  pub intf : k.intf ≡ l.intf
  pub cport : k.cport ≡ l.cport
  pub protocol : k.protocol ≡ l.protocol

-- A connection is known still, or is given up.
pub data IsFollowed (l : Link) (ls : List Link) (acts : List Act) : Type 0 where
  stays : (k : Link) → IsIn k ls → SameLink l k → IsFollowed l ls acts
  leaves : IsIn (Act.Leave l.connection) acts → IsFollowed l ls acts

-- ---- the bus and the application processor

-- a connection is the one that the application processor knows
pub record IsLinkOf (l : Link) (c : Connection) : Type 0 where
  pub number : c.number ≡ l.connection
  pub ap : c.ap ≡ l.ap
  pub peer : c.peer ≡ end.Module l.intf l.cport
  pub protocol : c.protocol ≡ l.protocol

-- A live connection is that of the supervisory controller, or the application processor knows it or
-- is giving it up.
pub data IsKnown (c : Connection) (ls : List Link) (acts : List Act) : Type 0 where
  supervisory : c.number ≡ 1 → IsKnown c ls acts
  linked : (l : Link) → IsIn l ls → IsLinkOf l c → IsKnown c ls acts
  leaving : IsIn (Act.Leave c.number) acts → IsKnown c ls acts

-- The supervisory controller's connection is what it was first.
pub record IsSvc (c : Connection) : Type 0 where
  pub ap : c.ap ≡ 0
  pub peer : c.peer ≡ end.Svc
  pub clean : c.clean ≡ true
  pub shut : c.shut ≡ false
  pub protocol : c.protocol ≡ 0x14
