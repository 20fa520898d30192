-- What a turn of the application processor brings about.
use Rattle.std.specs.Prelude.{◌≡◌, ◌≤◌, ⊤, ℕ, ◌+◌, Option, Some, None, Result, Ok, Err, List, []}
use Rattle.std.specs.Prelude.{◌∷◌, ◌++◌}
use Rattle.gb_base.specs.declared.entry.ConnState.TheVariants as state
use Rattle.gb_base.specs.declared.entry.Entry.TheVariants as entry
use Rattle.gb_base.specs.declared.entry.IntfStage.TheVariants as stage
use Rattle.gb_base.specs.declared.errors.OutOfMemory.{OutOfMemory}
use Rattle.gb_base.specs.declared.host_event.HostEvent.TheVariants as host_event
use Rattle.gb_base.specs.declared.host_event.HostEvent.{HostEvent}
use Rattle.gb_base.specs.declared.interface.Link.{Link}
use Rattle.gb_base.specs.declared.steps.SequenceStep.TheVariants as steps
use Rattle.gb_host.specs.Stands.{IsPending, IsUnchanged, host_of}
use Rattle.gb_host.specs.declared.acts.Act.{Act}
use Rattle.gb_host.specs.declared.acts.Act.TheVariants as act
use Rattle.gb_host.specs.declared.host.Host.{Host}
use Rattle.gb_machine.specs.Failures.{link_told}
use Rattle.gb_machine.specs.SequenceSteps.{Target, purpose}
use Rattle.gb_machine.specs.Sequences.{asking}
use Rattle.gb_machine.specs.Turns as turns
use Rattle.gb_machine.specs.Turns.{Asking, Turn}

-- The interfaces of a module that is inserted are numbers of one byte.
abbrev pub HasInterfaces : HostEvent → Type 0
HasInterfaces (host_event.Inserted p count) = p + count ≤ 256
HasInterfaces _ = ⊤

-- a request that is made
abbrev pub asks : Asking → Act
asks q = act.Ask q.on q.kind q.payload q.purpose

-- An act of the machine as the acts that are to be done: a connection that is opened is made, and
-- then its request.
abbrev pub spelled_act : turns.Act → List Act
spelled_act (turns.Act.Ask q) = asks q ∷ []
spelled_act (turns.Act.Make m q) =
    act.Make m.ap m.intf m.cport m.protocol q.purpose ∷ asks q ∷ []
spelled_act (turns.Act.Shut k) = act.Shut k ∷ []
spelled_act (turns.Act.Leave k) = act.Leave k ∷ []
spelled_act (turns.Act.Tell e) = act.Tell e ∷ []

-- The acts of the machine as those that are to be done.
abbrev pub spelled : List turns.Act → List Act
spelled [] = []
spelled (x ∷ xs) = spelled_act x ++ spelled xs

-- a connection is given up and told to be closed, where there is one
abbrev pub left_acts : Option Link → List turns.Act
left_acts None = []
left_acts (Some l) =
    turns.Act.Leave l.connection ∷ turns.Act.Tell (link_told state.Closed l) ∷ []

-- of what the first request of an enumeration speaks
abbrev pub target_at : ℕ → Target
target_at i = record { intf = i; cport = 0; ap = 0; device = 0 }

-- the enumeration of an interface is told to begin, and its first request is made
abbrev pub begins : ℕ → List turns.Act
begins i =
    turns.Act.Tell (entry.Interface i stage.Enumerating)
    ∷ turns.Act.Ask (asking 1 (purpose i 0 steps.EnableVsys) (target_at i)) ∷ []

-- the enumerations of interfaces begin, one after another
abbrev pub begun : List ℕ → List turns.Act
begun [] = []
begun (i ∷ is) = begins i ++ begun is

-- what an act makes is pending, and the rest holds
abbrev pub PendsWith : turns.Act → Host → Type 0 → Type 0
PendsWith (turns.Act.Ask q) x Others = Others
PendsWith (turns.Act.Make m q) x Others = IsPending m.ap m.protocol x × Others
PendsWith (turns.Act.Shut k) x Others = Others
PendsWith (turns.Act.Leave k) x Others = Others
PendsWith (turns.Act.Tell e) x Others = Others

-- Each connection that the acts make is pending.
abbrev pub Pends : List turns.Act → Host → Type 0
Pends [] x = ⊤
Pends (a ∷ acts) x = PendsWith a x (Pends acts x)

-- A turn is done: the value stands for the application processor after it, these acts are to be
-- done after those that there were, and what they make is pending.
pub record Turns (t : Turn) (front : List Act) (new : Host) (all : List Act) : Type 0 where
  pub host : t.host ≡ host_of new
  pub acts : all ≡ front ++ spelled t.acts
  pub pending : Pends t.acts new

-- A turn is done, and its acts went to the end of those that there were, or nothing of the
-- application processor has changed for want of memory.
abbrev pub TurnsAfter : Turn → List Act → List Act → Host → Host → Result ⊤ OutOfMemory → Type 0
TurnsAfter t front all old new (Ok done) = Turns t front new all
TurnsAfter t front all old new (Err refused) = IsUnchanged old new

-- A turn is done, and the acts are its own, or nothing has changed for want of memory.
abbrev pub TurnsAs : Turn → Host → Host → Result (List Act) OutOfMemory → Type 0
TurnsAs t old new (Ok all) = Turns t [] new all
TurnsAs t old new (Err refused) = IsUnchanged old new
