-- What becomes of a request that is delivered where requests are held, and of one that was held.
use Rattle.std.specs.Prelude.{◌≡◌, ℕ, Some, None, option_map, Result, Ok, Err, List}
use Rattle.gb_base.specs.declared.end.End.{End}
use Rattle.gb_base.specs.declared.end.Side.TheVariants as side
use Rattle.gb_base.specs.declared.entry.Entry.{Entry}
use Rattle.gb_base.specs.declared.refusal.Refusal.{Refusal}
use Rattle.gb_bus.specs.Wiring.{number_of}
use Rattle.gb_bus.specs.declared.answers.Asked.{Asked}
use Rattle.gb_machine.specs.Arriving.{asked_at}
use Rattle.gb_machine.specs.Bus.{Connection, Item, Place, place_of}
use Rattle.gb_machine.specs.LineActions.{serves_held}
use Rattle.gb_machine.specs.Lists.{first_met}
use Rattle.gb_machine.specs.Refusals.{module_place, wired_conditions}
use Rattle.gb_machine.specs.State.{State}
use Rattle.gb_system.specs.Doing.{Does}
use Rattle.gb_system.specs.Serving.{IsDelivered, MayServe, only, side_of}
use Rattle.gb_system.specs.Stands.{PartsStand}
use Rattle.gb_system.specs.declared.held.HeldRequest.{HeldRequest}
use Rattle.gb_system.specs.declared.parties.Parties.{Parties}

-- The answer is the wired connection at a module's CPort exactly where no condition is met, and
-- else the first.
abbrev pub WiredAs : State → ℕ → ℕ → Result ℕ Refusal → Type 0
WiredAs s i c (Ok k) =
    (first_met (wired_conditions s i c) ≡ None)
    × (option_map number_of (module_place i c s) ≡ Some k)
WiredAs s i c (Err why) = first_met (wired_conditions s i c) ≡ Some why

-- A request that was delivered at an end is held or served as the machine does.
abbrev pub AsksAt : End → Parties → Parties → ℕ → Asked → List ℕ → List Entry → List Entry → Type 0
AsksAt at old new k asked payload before told =
    (s : State) (c : Connection) (item : Item) → (d : IsDelivered at k asked payload s c item)
    → PartsStand (only k (side_of at) item) old s
    → MayServe (side_of at) c d.request s
    → Does new (asked_at (side_of at) c item d.request) s before told

-- A request that was held at an end is served or dropped as the machine does.
abbrev pub ServesHeldAt : End → Parties → Parties → ℕ → HeldRequest → List Entry → List Entry
    → Type 0
ServesHeldAt at old new k h before told =
    (s : State) (p : Place) (item : Item)
    → (d : IsDelivered at k h.asked h.payload s p.connection item)
    → PartsStand (only k (side_of at) item) old s
    → place_of at s.bus.connections ≡ Some p → side_of at ≡ p.side → p.side ≡ side.Far
    → Does new (serves_held p item) s before told
