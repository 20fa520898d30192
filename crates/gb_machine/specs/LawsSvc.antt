-- Facts of every state of a run: what is wired is routed, and what waits on the supervisory
-- controller's connection.
use Rattle.std.specs.Prelude.{◌≡◌, ◌≢◌, ◌<◌, ◌≤◌, ℕ, Bool, true, false, if◌then◌else◌, Option, Some}
use Rattle.std.specs.Prelude.{None, option_and_then, List, [], ◌∷◌, ⊤}
use Rattle.std.specs.List.{filter, list_any}
use Rattle.gb_base.specs.declared.end.End.{End}
use Rattle.gb_base.specs.declared.end.End.TheVariants as end
use Rattle.gb_base.specs.declared.end.Side.TheVariants as side
use Rattle.gb_base.specs.declared.entry.Entry.{Entry}
use Rattle.gb_base.specs.declared.entry.IntfStage.TheVariants as stage
use Rattle.gb_base.specs.declared.interface.Interface.{Interface}
use Rattle.gb_base.specs.declared.steps.SequenceStep.{SequenceStep}
use Rattle.gb_machine.specs.Bus.{Ask, Bus, Item, Request, connection_of, request_of}
use Rattle.gb_machine.specs.Host.{Host, interface_of}
use Rattle.gb_machine.specs.Lists.{behind_first}
use Rattle.gb_machine.specs.Members.{Each, IsIn}
use Rattle.gb_machine.specs.Modules.{is_plugged}
use Rattle.gb_machine.specs.Ports.{level_of}
use Rattle.gb_machine.specs.Runs.{HoldsAtEachMoment, HoldsThroughout, Moment}
use Rattle.gb_machine.specs.SequenceSteps.{asks_control}
use Rattle.gb_machine.specs.State.{State}
use Rattle.gb_machine.specs.SvcQueues.{HandlesRemoval, is_ask, is_connection_request}
use Rattle.gb_machine.specs.SvcQueues.{is_enumeration_request, is_for_link, is_removal_in}
use Rattle.gb_machine.specs.SvcQueues.{is_reply_to, svc_items, svc_requests}
use Rattle.gb_machine.specs.Wiring.{is_wired_to}

-- ---- wired means routed

-- a far end is at a routed interface where a module is plugged
abbrev pub IsRouted : State → End → Type 0
IsRouted s end.Svc = ⊥
IsRouted s (end.Module i c) =
    (is_plugged i s.modules ≡ true) × (level_of i s.ports ≡ 6)
IsRouted s (end.Ap a) = ⊥

-- A connection that is wired is routed, but for that of the supervisory controller.
abbrev pub AreRouted : List Entry → State → Type 0
AreRouted told s =
    Each (λ c. c.wired ≡ true → c.number ≢ 1 → IsRouted s c.peer) s.bus.connections

-- A connection that is wired is to a routed interface, in every state of a run.
abbrev pub WiredMeansRouted : Type 0
WiredMeansRouted = HoldsThroughout AreRouted

-- ---- removal leaves nothing wired

-- MODULE_REMOVED of an interface waits toward the application processor.
abbrev pub awaits_removal : ℕ → State → Bool
awaits_removal i s = list_any (is_removal_in i s.past.pulled) (svc_items side.Ap s.bus)

-- While it does, the power level of the interface is at most 1 and none of its
-- connections is wired.
pub record LeavesNothingWired (told : List Entry) (s : State) : Type 0 where
  pub low : (i : ℕ) → awaits_removal i s ≡ true → level_of i s.ports ≤ 1
  pub unwired : (i : ℕ) → awaits_removal i s ≡ true
      → Each (λ c. is_wired_to i c ≡ false) s.bus.connections

-- A removal that the application processor handles finds none of its interface's connections wired.
abbrev pub FindsUnwired : Moment → Type 0
FindsUnwired m = (i : ℕ) → HandlesRemoval i m
    → Each (λ c. is_wired_to i c ≡ false) m.before.bus.connections

-- While a removal waits nothing of its interface is wired, in every state of a run, so nothing is
-- where it is handled.
abbrev pub RemovalLeavesNothingWired : Type 0
RemovalLeavesNothingWired = HoldsThroughout LeavesNothingWired × HoldsAtEachMoment FindsUnwired

-- ---- one enumeration request and then restarts

-- the kind with which an enumeration starts, VSYS_ENABLE
abbrev pub IsStart : Request → Type 0
IsStart r = r.kind ≡ 0x21

-- the enumeration requests of an interface that wait toward the supervisory controller
abbrev pub enumeration_requests : ℕ → Bus → List Request
enumeration_requests i b = filter (is_enumeration_request i) (svc_requests side.Far b)

-- no connection request of an interface stands behind an enumeration request of it
abbrev pub NoneBehind : ℕ → List Request → Type 0
NoneBehind i [] = ⊤
NoneBehind i (r ∷ rs) =
    (is_enumeration_request i r ≡ true → Each (λ q. is_connection_request i q ≡ false) rs)
    × NoneBehind i rs

-- Of the enumeration requests of an interface that wait toward the supervisory controller each but
-- the first is a start, and no connection request of the interface stands behind one of them.
pub record OneThenRestarts (told : List Entry) (s : State) : Type 0 where
  pub restarts : (i : ℕ) → Each IsStart (behind_first (enumeration_requests i s.bus))
  pub last : (i : ℕ) → NoneBehind i (svc_requests side.Far s.bus)

-- Behind an enumeration request of an interface only starts of its enumeration wait.
abbrev pub OneEnumerationRequestThenRestarts : Type 0
OneEnumerationRequestThenRestarts = HoldsThroughout OneThenRestarts

-- ---- quiet before a removal

-- what an interface's enumeration waits for
abbrev pub awaited_by : ℕ → Host → Option (ℕ × SequenceStep)
awaited_by i h = option_and_then (λ (x : Interface). x.awaits) (interface_of i h)

-- the members in front of the last one that passes a test
abbrev pub before_last : {A : Type 0} → (A → Bool) → List A → List A
before_last test [] = []
before_last test (x ∷ xs) =
    let later = before_last test xs in if list_any test xs then x ∷ later else []

-- what waits toward the application processor in front of the last removal of an interface
abbrev pub before_removal : ℕ → State → List Item
before_removal i s =
    before_last (is_removal_in i s.past.pulled) (svc_items side.Ap s.bus)

-- While a removal of an interface waits, its power level is 0 or 1. Where it is 1, only starts of
-- its enumeration wait toward the supervisory controller, and no answer that its enumeration waits
-- for stands before the last such removal.
pub record IsQuiet (told : List Entry) (s : State) : Type 0 where
  pub low : (i : ℕ) → awaits_removal i s ≡ true → level_of i s.ports ≤ 1
  pub starts : (i : ℕ) → awaits_removal i s ≡ true → level_of i s.ports ≡ 1
      → Each IsStart (enumeration_requests i s.bus)
  pub unanswered : (i n : ℕ) (step : SequenceStep)
      → awaits_removal i s ≡ true → level_of i s.ports ≡ 1
      → awaited_by i s.host ≡ Some (n, step)
      → Each (λ item. is_reply_to n item ≡ false) (before_removal i s)

-- While a removal waits, only starts of the enumeration of its interface wait, and no answer that
-- it waits for comes before the removal, in every state of a run.
abbrev pub QuietBeforeRemoval : Type 0
QuietBeforeRemoval = HoldsThroughout IsQuiet

-- ---- the awaited request is the last

-- a request of the application processor to the supervisory controller that enumerates
pub record IsEnumeration (i : ℕ) (r : Request) : Type 0 where
  pub connection : r.connection ≡ 1
  pub side : r.side ≡ side.Ap
  pub enumerates : is_enumeration_request i r ≡ true

-- no enumeration request of an interface waits toward the supervisory controller
abbrev pub HasNoEnumeration : ℕ → Bus → Type 0
HasNoEnumeration i b = Each (λ r. is_enumeration_request i r ≡ false) (svc_requests side.Far b)

-- Where the enumeration of an interface waits for the supervisory controller, it waits for the last
-- of its requests, and none waits there once that one was served. Where it waits for the module, or
-- is done, none waits there.
pub record AwaitsLast (told : List Entry) (s : State) : Type 0 where
  pub own : (i n : ℕ) (step : SequenceStep) → awaited_by i s.host ≡ Some (n, step)
      → asks_control step ≡ false
      → (r : Request) × (request_of n s.bus ≡ Some r) × IsEnumeration i r
  pub last : (i n m : ℕ) (step : SequenceStep) (r : Request)
      → awaited_by i s.host ≡ Some (n, step) → asks_control step ≡ false
      → request_of m s.bus ≡ Some r → IsEnumeration i r → m ≤ n
  pub served : (i n : ℕ) (step : SequenceStep) → awaited_by i s.host ≡ Some (n, step)
      → asks_control step ≡ false → list_any (is_ask n) (svc_items side.Far s.bus) ≡ false
      → HasNoEnumeration i s.bus
  pub asked : (i n : ℕ) (step : SequenceStep) → awaited_by i s.host ≡ Some (n, step)
      → asks_control step ≡ true → HasNoEnumeration i s.bus
  pub done : (i : ℕ) (x : Interface) → interface_of i s.host ≡ Some x
      → x.stage ≡ stage.Enumerated → HasNoEnumeration i s.bus

-- An enumeration waits for the last of its requests, in every state of a run.
abbrev pub AwaitedIsTheLast : Type 0
AwaitedIsTheLast = HoldsThroughout AwaitsLast

-- ---- stale connection requests meet a low level

-- While a request to create or destroy a connection of an interface that isn't live any more waits
-- toward the supervisory controller, the interface isn't routed.
abbrev pub StaleIsLow : List Entry → State → Type 0
StaleIsLow told s =
    (i n k : ℕ) (r : Request)
    → IsIn (Ask n) (svc_items side.Far s.bus) → IsIn (n, k) s.past.made_for
    → connection_of k s.bus ≡ None → request_of n s.bus ≡ Some r → is_for_link i r ≡ true
    → level_of i s.ports < 6

-- Requests for connections that are gone find their interface without a route.
abbrev pub StaleRequestsMeetLowLevel : Type 0
StaleRequestsMeetLowLevel = HoldsThroughout StaleIsLow
