-- What the application processor does at what it takes notice of, or where a request can't be made,
-- as single changes of it and one end.
use Rattle.std.proofs.Common.{Bool, List, None, Option, Some, cond, false, map, refl, true, ℕ, []}
use Rattle.std.proofs.Common.{subst, ◌++◌, ◌∷◌, ◌≡◌, ◌⊎◌}
use Rattle.std.specs.Prelude.{IfSome}
use Rattle.gb_base.specs.declared.entry.{ConnState.ConnState, Entry.Entry}
use Rattle.gb_base.specs.declared.host_event.HostEvent.TheVariants as host_event
use Rattle.gb_base.specs.declared.host_event.HostEvent.{HostEvent}
use Rattle.gb_base.specs.declared.outcome.Outcome.{Outcome}
use Rattle.gb_base.specs.declared.interface.{Interface.Interface, Link.Link}
use Rattle.gb_base.specs.declared.steps.{Purpose.Purpose, SequenceStep.SequenceStep}
use Rattle.gb_base.specs.declared.entry.ConnState.TheVariants as state
use Rattle.gb_base.specs.declared.entry.Entry.TheVariants as entry
use Rattle.gb_base.specs.declared.entry.IntfStage.TheVariants as stage
use Rattle.gb_base.specs.declared.outcome.Outcome.TheVariants as outcome
use Rattle.gb_base.specs.declared.steps.SequenceStep.TheVariants as steps
use Rattle.gb_machine.specs.Host.{Host, free_cport, in_state, is_draining, link_at, link_of, staged}
use Rattle.gb_machine.specs.Host.{with_freed, with_interface, with_link, with_new_interface}
use Rattle.gb_machine.specs.Host.{without_link}
use Rattle.gb_machine.specs.HostTurns.{host_inserted, host_removed, host_turn, links_left, links_of}
use Rattle.gb_machine.specs.HostTurns.{without_interface}
use Rattle.gb_machine.specs.SequenceSteps.{at_step, is_enumeration, purpose}
use Rattle.gb_machine.specs.Sequences.{ap_in, asking, enumerated, opened, opens, target, way_of}
use Rattle.gb_machine.specs.Turns.{Act, Turn, turn}
use Rattle.gb_machine.specs.{Failures.link_told, Failures.told_of, Members.Each, Waits.awaited}
use Rattle.gb_machine.specs.{Waits.awaits_nothing, Waits.waiting}

-- ---- what is noticed

-- What the application processor takes notice of in one turn: an interface of a module is inserted
-- or removed, or something else happens.
pub data Notice : Type 0 where
  at_insertion : (p i : ℕ) → Notice
  at_removal : (i : ℕ) → Notice
  at_event : (e : HostEvent) → Notice

-- the turn at an event, none where that is of a module, which has one for each interface
abbrev pub event_turn : HostEvent → Host → Turn
event_turn (host_event.Inserted p count) h = turn h []
event_turn (host_event.Removed p) h = turn h []
event_turn e h = host_turn e h

-- The turn at what is noticed.
abbrev pub turn_of : Notice → Host → Turn
turn_of (at_insertion p i) h = host_inserted p i h
turn_of (at_removal i) h = host_removed i h
turn_of (at_event e) h = event_turn e h

-- ---- changes and ends

-- A single change of the application processor.
pub data HostChange : Type 0 where
  -- something is told that is of no connection
  tells : (e : Entry) → HostChange
  -- an interface of a module is inserted, or is gone with its connections
  arrives : (p i : ℕ) → HostChange
  departs : (i : ℕ) → HostChange
  -- a sequence waits for nothing
  resumes : (p : Purpose) → HostChange
  -- an interface changes, but for its stage and what it waits for, or it fails
  updates : (i : ℕ) (f : Interface → Interface) → HostChange
  fails : (i : ℕ) → HostChange
  -- a connection opens, drains or fails, where there is one
  turns_to : (i c : ℕ) (to : ConnState) (o : Option Link) → HostChange
  -- a connection is closing, or was closed and is given up, where there is one
  closes : (i c : ℕ) (l : Link) → HostChange
  leaves : (p : Purpose) (o : Option Link) → HostChange

-- How a turn ends: with nothing more, with a request, with a connection that is made and its
-- request, or with an interface that is enumerated.
pub data HostEnd : Type 0 where
  rests : HostEnd
  asks : (k : ℕ) (p : Purpose) → HostEnd
  makes : (ap protocol : ℕ) (p : Purpose) → HostEnd
  enumerates : (p : Purpose) (bytes : List ℕ) → HostEnd

-- the application processor behind a change
abbrev pub host_after : HostChange → Host → Host
host_after (tells e) h = h
host_after (arrives p i) h = with_new_interface p i h
host_after (departs i) h = without_interface i h
host_after (resumes p) h = awaits_nothing p h
host_after (updates i f) h = with_interface i f h
host_after (fails i) h = with_interface i (staged stage.Failed) h
host_after (turns_to i c to o) h = with_link i c (in_state to) h
host_after (closes i c l) h = with_link i c (in_state state.Closing) (with_freed l.connection h)
host_after (leaves p o) h = without_link p.intf p.cport h

-- how a connection is given up, where there is one
abbrev left_acts : Option Link → List Act
left_acts None = []
left_acts (Some l) = Act.Leave l.connection ∷ Act.Tell (link_told state.Closed l) ∷ []

-- what it does at a change
abbrev pub acts_by : HostChange → Host → List Act
acts_by (tells e) h = Act.Tell e ∷ []
acts_by (departs i) h = links_left (links_of i h)
acts_by (turns_to i c to o) h = map Act.Tell (told_of to o)
acts_by (closes i c l) h =
    Act.Shut l.connection ∷ Act.Tell (link_told state.Closing l) ∷ []
acts_by (leaves p o) h = left_acts o
acts_by _ h = []

-- an end as a turn
abbrev pub end_of : HostEnd → Host → Turn
end_of rests h = turn h []
end_of (asks k p) h =
    turn h (Act.Ask (asking k p (target (ap_in (link_at p.intf p.cport h)) p h)) ∷ [])
end_of (makes a protocol p) h = opens a protocol p h
end_of (enumerates p bytes) h =
    turn (with_interface p.intf (enumerated bytes) h)
    (Act.Tell (entry.Interface p.intf stage.Enumerated) ∷ [])

-- ---- what a change finds

-- an entry is of no connection
abbrev pub IsOfNone : Entry → Type 0
IsOfNone (entry.Interface i to) = Unit {0}
IsOfNone (entry.Manifest i at why) = Unit {0}
IsOfNone _ = ⊥

-- What an update keeps.
pub record Keeps (f : Interface → Interface) : Type 0 where
  pub intf : (x : Interface) → (f x).intf ≡ x.intf
  pub primary : (x : Interface) → (f x).primary ≡ x.primary
  pub awaits : (x : Interface) → (f x).awaits ≡ x.awaits
  pub stage : (x : Interface) → (f x).stage ≡ x.stage

-- What a change finds where it is made.
abbrev pub Finds : Host → HostChange → Type 0
Finds h (tells e) = IsOfNone e
Finds h (updates i f) = Keeps f
Finds h (turns_to i c to o) = link_at i c h ≡ o
Finds h (closes i c l) = link_at i c h ≡ Some l
Finds h (leaves p o) = link_at p.intf p.cport h ≡ o
Finds h _ = Unit {0}

-- ---- why a change is made

-- a step asks for a new connection
abbrev pub is_creating : SequenceStep → Bool
is_creating steps.CreateControl = true
is_creating steps.CreateConnection = true
is_creating _ = false

-- the step that follows one that is answered, None behind the last of a sequence
abbrev pub step_behind : SequenceStep → Option SequenceStep
step_behind steps.EnableVsys = Some steps.EnableRefclk
step_behind steps.EnableRefclk = Some steps.EnableUnipro
step_behind steps.EnableUnipro = Some steps.Activate
step_behind steps.Activate = Some steps.GiveDevice
step_behind steps.GiveDevice = Some steps.CreateRoute
step_behind steps.CreateRoute = Some steps.CreateControl
step_behind steps.CreateControl = Some steps.AskVersion
step_behind steps.AskVersion = Some steps.AskSize
step_behind steps.AskSize = Some steps.AskManifest
step_behind steps.AskManifest = None
step_behind steps.CreateConnection = Some steps.TellConnected
step_behind steps.TellConnected = None
step_behind steps.TellDisconnecting = Some steps.TellDisconnected
step_behind steps.TellDisconnected = Some steps.DestroyConnection
step_behind steps.DestroyConnection = None

-- the step before one is of an enumeration where that is
kind-behind : (s : SequenceStep)
    → IfSome (step_behind s) (λ t. is_enumeration s ≡ is_enumeration t)
kind-behind steps.AskManifest = tt
kind-behind steps.TellConnected = tt
kind-behind steps.DestroyConnection = tt
kind-behind _ = refl

-- so it is where a step follows a step
pub same-kind : (s : SequenceStep) {t : SequenceStep} → step_behind s ≡ Some t
    → is_enumeration s ≡ is_enumeration t
same-kind s e = subst (λ o. IfSome o (λ t. is_enumeration s ≡ is_enumeration t)) e (kind-behind s)

-- A request ended for which a sequence waited.
pub record IsEnded (x : Notice) (before : Host) (p : Purpose) : Type 0 where
  pub number : ℕ
  pub how : Outcome
  pub is : x ≡ at_event (host_event.Ended number how)
  pub awaited : awaited number before ≡ Some p

-- It was answered.
pub record IsAnswered (x : Notice) (before : Host) (p : Purpose) : Type 0 where
  pub number : ℕ
  pub result : ℕ
  pub payload : List ℕ
  pub is : x ≡ at_event (host_event.Ended number (outcome.Answered result payload))
  pub awaited : awaited number before ≡ Some p

-- A connection drains, and no request of the application processor is open on it.
pub record IsDrained (x : Notice) (before : Host) (l : Link) : Type 0 where
  pub number : ℕ
  pub is : x ≡ at_event (host_event.Idle number)
  pub found : link_of number before ≡ Some l
  pub drains : is_draining l.state ≡ true

-- Why a connection is closing: it is disconnected, or it was draining and is idle.
pub data IsClosingFor (x : Notice) (before : Host) (i c : ℕ) : Type 0 where
  by_disconnect : x ≡ at_event (host_event.Disconnect i c) → IsClosingFor x before i c
  by_idle : (d : Link) → IsDrained x before d → d.intf ≡ i → d.cport ≡ c
      → IsClosingFor x before i c

-- The application processor where the step behind one that was answered is asked: as it was, but
-- for its interface, or with Control open.
pub data IsBehind (last : Purpose) (h g : Host) : Type 0 where
  as_answered : g ≡ h → IsBehind last h g
  with_update : (f : Interface → Interface) → Keeps f → g ≡ with_interface last.intf f h
      → IsBehind last h g
  with_control : last.step ≡ steps.CreateControl → g ≡ opened last h → IsBehind last h g

-- Why a request is made, and where: a sequence begins, or goes on with the next step.
pub data IsAskedAt (x : Notice) (before : Host) (p : Purpose) (h : Host) : Type 0 where
  to_enumerate : (q i : ℕ) → x ≡ at_insertion q i → p ≡ purpose i 0 steps.EnableVsys
      → h ≡ with_new_interface q i before → IsAskedAt x before p h
  to_connect : (i c : ℕ) → x ≡ at_event (host_event.Connect i c)
      → p ≡ purpose i c steps.CreateConnection → h ≡ before → IsAskedAt x before p h
  to_close : (i c : ℕ) (l : Link) → IsClosingFor x before i c → link_at i c before ≡ Some l
      → p ≡ purpose i c steps.TellDisconnecting → h ≡ host_after (closes i c l) before
      → IsAskedAt x before p h
  to_go_on : (last : Purpose) (step : SequenceStep) → IsAnswered x before last
      → step_behind last.step ≡ Some step → p ≡ at_step step last
      → IsBehind last (awaits_nothing last before) h → IsAskedAt x before p h

-- What changes are made for: the application processor takes notice of something, or the request of
-- a purpose can't be made.
pub data Occasion : Type 0 where
  at_notice : (x : Notice) (before : Host) → Occasion
  at_unsent : (p : Purpose) (before : Host) → Occasion

-- something is noticed, and nothing has changed yet
abbrev pub Notices : Occasion → Notice → Host → Type 0
Notices (at_notice x before) y h = (x ≡ y) × (h ≡ before)
Notices (at_unsent p before) y h = ⊥

-- a connection is closing, and nothing has changed yet
abbrev pub Closes : Occasion → ℕ → ℕ → Host → Type 0
Closes (at_notice x before) i c h = IsClosingFor x before i c × (h ≡ before)
Closes (at_unsent p before) i c h = ⊥

-- a request ended, and nothing has changed yet
abbrev pub Ends : Occasion → Purpose → Host → Type 0
Ends (at_notice x before) p h = IsEnded x before p × (h ≡ before)
Ends (at_unsent q before) p h = ⊥

-- a step was answered, and its sequence waits for nothing
abbrev pub Completes : Occasion → Purpose → SequenceStep → Host → Type 0
Completes (at_notice x before) p last h =
    IsAnswered x before p × (p.step ≡ last) × (h ≡ awaits_nothing p before)
Completes (at_unsent q before) p last h = ⊥

-- the enumeration of an interface fails
abbrev pub FailsAt : Occasion → ℕ → Type 0
FailsAt (at_notice x before) i =
    (p : Purpose) × IsEnded x before p × (is_enumeration p.step ≡ true) × (p.intf ≡ i)
FailsAt (at_unsent p before) i = (is_enumeration p.step ≡ true) × (p.intf ≡ i)

-- a request is made
abbrev pub AsksAt : Occasion → Purpose → Host → Type 0
AsksAt (at_notice x before) p h = IsAskedAt x before p h
AsksAt (at_unsent q before) p h = ⊥

-- a step fails: its request ended, there is no connection for that, or no identifier
abbrev pub FailsFor : Occasion → Purpose → Host → Type 0
FailsFor (at_notice x before) p h =
    (IsEnded x before p × (h ≡ awaits_nothing p before)) ⊎ IsAskedAt x before p h
FailsFor (at_unsent q before) p h = (q ≡ p) × (h ≡ before) × (is_creating q.step ≡ false)

-- why a connection has another state, but for closing, which has a change of its own
abbrev pub TurnsFor : ConnState → Occasion → Host → ℕ → ℕ → Type 0
TurnsFor state.Open o h i c =
    (step : SequenceStep) × (Completes o (purpose i c step) steps.CreateControl h
    ⊎ Completes o (purpose i c step) steps.TellConnected h)
TurnsFor state.Draining o h i c = Notices o (at_event (host_event.Drain i c)) h
TurnsFor state.Failed o h i c = (step : SequenceStep) × FailsFor o (purpose i c step) h
TurnsFor _ o h i c = ⊥

-- Why a change is made, where the application processor is so far.
abbrev pub IsFor : Occasion → Host → HostChange → Type 0
IsFor o h (arrives p i) = Notices o (at_insertion p i) h
IsFor o h (departs i) = Notices o (at_removal i) h
IsFor o h (resumes p) = Ends o p h
IsFor o h (fails i) = FailsAt o i
IsFor o h (turns_to i c to l) = TurnsFor to o h i c
IsFor o h (closes i c l) = Closes o i c h
IsFor o h (leaves p l) = Completes o p steps.DestroyConnection h
IsFor o h _ = Unit {0}

-- Why a turn ends so.
abbrev pub IsLast : Occasion → Host → HostEnd → Type 0
IsLast o h rests = Unit {0}
IsLast o h (asks k p) =
    AsksAt o p h × (is_creating p.step ≡ false) × (way_of p h ≡ Some k)
IsLast o h (makes a protocol p) =
    AsksAt o p h × (is_creating p.step ≡ true) × (free_cport h ≡ Some a)
IsLast o h (enumerates p bytes) = Completes o p steps.AskManifest h

-- ---- laws of turns

-- What is said of a turn from a state of the application processor on: of each end, and of each
-- change in front of a turn.
pub record TurnLaw (o : Occasion) : Type 1 where
  pub says : Host → Turn → Type 0
  pub ends : (x : HostEnd) (h : Host) → IsLast o h x → says h (end_of x h)
  pub over : (x : HostChange) (h : Host) (t : Turn) → Finds h x → IsFor o h x
      → says (host_after x h) t → says h (turn t.host (acts_by x h ++ t.acts))

-- ---- what changes do

-- an act asks for nothing
abbrev pub AsksNone : Act → Type 0
AsksNone (Act.Ask q) = ⊥
AsksNone (Act.Make w q) = ⊥
AsksNone _ = Unit {0}

-- Changes ask for nothing: a request ends its turn.
pub changes-ask : (x : HostChange) (h : Host) → Each AsksNone (acts_by x h)
changes-ask (departs i) h = by (links_of i h)
  where
    by : (ls : List Link) → Each AsksNone (links_left ls)
    by [] = tt
    by (l ∷ ls) = (tt, (tt, (tt, by ls)))
changes-ask (tells e) h = (tt, tt)
changes-ask (turns_to i c to None) h = tt
changes-ask (turns_to i c to (Some l)) h = (tt, tt)
changes-ask (closes i c l) h = (tt, (tt, tt))
changes-ask (leaves p None) h = tt
changes-ask (leaves p (Some l)) h = (tt, (tt, tt))
changes-ask _ h = tt

-- an interface or a connection waits for something, or for nothing
abbrev pub interface_awaits : Option (ℕ × SequenceStep) → Interface → Interface
interface_awaits w x = record x { awaits = w }

abbrev pub link_awaits : Option (ℕ × SequenceStep) → Link → Link
link_awaits w l = record l { awaits = w }

-- A sequence waits at its interface in an enumeration, and else at its connection.
pub waiting-by : (P : Host → Type 0) (w : Option (ℕ × SequenceStep)) (p : Purpose) (h : Host)
    → (is_enumeration p.step ≡ true → P (with_interface p.intf (interface_awaits w) h))
    → (is_enumeration p.step ≡ false → P (with_link p.intf p.cport (link_awaits w) h))
    → P (waiting w p h)
waiting-by P w p h = by (is_enumeration p.step)
  where
    by : (t : Bool) → (t ≡ true → P (with_interface p.intf (interface_awaits w) h))
        → (t ≡ false → P (with_link p.intf p.cport (link_awaits w) h))
        → P (cond t (with_interface p.intf (interface_awaits w) h)
        (with_link p.intf p.cport (link_awaits w) h))
    by true at on = at refl
    by false at on = on refl
