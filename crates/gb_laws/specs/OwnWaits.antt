-- What `AwaitsLast` and `OneThenRestarts` of gb_machine say of the requests of an enumeration.
use Rattle.std.specs.Prelude.{◌≡◌, ◌≤◌, ℕ, true, false, Some, List}
use Rattle.std.specs.List.{list_any}
use Rattle.gb_base.specs.declared.end.Side.TheVariants as side
use Rattle.gb_base.specs.declared.entry.Entry.{Entry}
use Rattle.gb_base.specs.declared.entry.IntfStage.TheVariants as stage
use Rattle.gb_base.specs.declared.interface.Interface.{Interface}
use Rattle.gb_base.specs.declared.steps.SequenceStep.{SequenceStep}
use Rattle.gb_machine.specs.Bus.{Request, request_of}
use Rattle.gb_machine.specs.Host.{interface_of}
use Rattle.gb_machine.specs.LawsSvc.{
  HasNoEnumeration,
  IsEnumeration,
  IsStart,
  awaited_by,
  enumeration_requests,
}
use Rattle.gb_machine.specs.Lists.{behind_first}
use Rattle.gb_machine.specs.Members.{Each}
use Rattle.gb_machine.specs.SequenceSteps.{asks_control}
use Rattle.gb_machine.specs.State.{State}
use Rattle.gb_machine.specs.SvcQueues.{is_ask, svc_items}

-- Where the enumeration of an interface waits for the supervisory controller, it waits for a
-- request of the application processor to that, which enumerates the interface.
abbrev pub AwaitsOwnRequest : List Entry → State → Type 0
AwaitsOwnRequest told s =
    (i n : ℕ) (step : SequenceStep) → awaited_by i s.host ≡ Some (n, step)
    → asks_control step ≡ false
    → (r : Request) × (request_of n s.bus ≡ Some r) × IsEnumeration i r

-- Where it is to be served no more, none of its requests waits toward the supervisory controller.
abbrev pub ServedLeavesNone : List Entry → State → Type 0
ServedLeavesNone told s =
    (i n : ℕ) (step : SequenceStep) → awaited_by i s.host ≡ Some (n, step)
    → asks_control step ≡ false → list_any (is_ask n) (svc_items side.Far s.bus) ≡ false
    → HasNoEnumeration i s.bus

-- Each but the first of the requests of an enumeration that wait there is a start.
abbrev pub OnlyRestarts : List Entry → State → Type 0
OnlyRestarts told s =
    (i : ℕ) → Each IsStart (behind_first (enumeration_requests i s.bus))

-- Where the enumeration of an interface waits for the supervisory controller, it waits for the last
-- of its requests.
abbrev pub AwaitsNewest : List Entry → State → Type 0
AwaitsNewest told s =
    (i n m : ℕ) (step : SequenceStep) (r : Request) → awaited_by i s.host ≡ Some (n, step)
    → asks_control step ≡ false → request_of m s.bus ≡ Some r → IsEnumeration i r → m ≤ n

-- Where it waits for the module, none of its requests waits toward the supervisory controller.
abbrev pub AskedLeavesNone : List Entry → State → Type 0
AskedLeavesNone told s =
    (i n : ℕ) (step : SequenceStep) → awaited_by i s.host ≡ Some (n, step)
    → asks_control step ≡ true → HasNoEnumeration i s.bus

-- Where the interface is enumerated, none does either.
abbrev pub DoneLeavesNone : List Entry → State → Type 0
DoneLeavesNone told s =
    (i : ℕ) (x : Interface) → interface_of i s.host ≡ Some x → x.stage ≡ stage.Enumerated
    → HasNoEnumeration i s.bus
