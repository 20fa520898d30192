-- What a ladder answers to a climb and to the loss of a route.
use Rattle.std.specs.Prelude.{◌≡◌, ◌≢◌, ◌<◌, ◌≤◌, ℕ, Bool, true, false, ⊤, Option, Some, None}
use Rattle.std.specs.Prelude.{option_and_then, Result, Ok, Err, List, [], ◌∷◌}
use Rattle.gb_formats.specs.SvcRecords.{SvcAsk}
use Rattle.gb_machine.specs.Host.{is_device}
use Rattle.gb_machine.specs.Ports.{level_of, unrouted}
use Rattle.gb_machine.specs.Serving.{invalid, nonexistent, success}
use Rattle.gb_machine.specs.State as machine
use Rattle.gb_machine.specs.SvcTable.{SvcServed, SvcStep, svc_asked}
use Rattle.gb_switch.specs.Levels.{PutsAt, level_number, plugged_at, raised_to}
use Rattle.gb_switch.specs.Stands.{Stands}
use Rattle.gb_switch.specs.declared.ladder.Ladder.{Ladder}
use Rattle.gb_switch.specs.declared.port.Level.{Level}
use Rattle.gb_switch.specs.declared.port.Port.{Port}
use Rattle.gb_switch.specs.declared.rung.NotReady.{NotReady}
use Rattle.gb_switch.specs.declared.rung.NotReady.TheVariants as not_ready
use Rattle.gb_switch.specs.declared.rung.NotRouted.{NotRouted}
use Rattle.gb_switch.specs.declared.rung.Rung.{Rung}
use Rattle.gb_switch.specs.declared.rung.Rung.TheVariants as rung

-- The request of the application processor to the supervisory controller for a rung. A route begins
-- at interface 1, whose device id is 1.
abbrev pub asked_for : ℕ → Rung → SvcAsk
asked_for i rung.Vsys = SvcAsk.VsysEnable i
asked_for i rung.Refclk = SvcAsk.RefclkEnable i
asked_for i rung.Unipro = SvcAsk.UniproEnable i
asked_for i rung.Active = SvcAsk.IntfActivate i
asked_for i (rung.Device d) = SvcAsk.IntfDeviceId i d
asked_for i (rung.Route d) = SvcAsk.RouteCreate 1 1 i d

-- the payload of the answer of success
abbrev pub told : Rung → List ℕ
told rung.Vsys = 0 ∷ []
told rung.Refclk = 0 ∷ []
told rung.Unipro = 0 ∷ []
told rung.Active = 0 ∷ 3 ∷ []
told (rung.Device d) = []
told (rung.Route d) = []

-- What a climb answers stands for an answer of the supervisory controller: Below for NONEXISTENT,
-- and Taken for INVALID.
abbrev pub served_by : Rung → Result (Unit {0}) NotReady → SvcServed
served_by r (Ok u) = SvcServed.Answered success (told r)
served_by r (Err not_ready.Below) = SvcServed.Answered nonexistent []
served_by r (Err not_ready.Taken) = SvcServed.Answered invalid []

-- a step serves so, and a ladder stands for the interfaces after it
pub record Follows (new : Ladder) (step : SvcStep) (served : SvcServed) : Type 0 where
  pub answer : step.served ≡ served
  pub stands : Stands new step.ports

-- A climb is what the supervisory controller's table says of its request.
abbrev pub ClimbsAs : Ladder → ℕ → Rung → List machine.Port → Result (Unit {0}) NotReady → Type 0
ClimbsAs new i r ports result = Follows new (svc_asked ports (asked_for i r)) (served_by r result)

-- An interface loses its route where it has one. Elsewhere nothing changes.
abbrev pub UnroutesAs : Ladder → ℕ → List machine.Port → Result (Unit {0}) NotRouted → Type 0
UnroutesAs new i ports (Ok u) = (level_of i ports ≡ 6) × Stands new (unrouted i ports)
UnroutesAs new i ports (Err why) = (level_of i ports ≢ 6) × Stands new ports

-- nothing is plugged, or its level is less
abbrev pub IsBelow : ℕ → Option Port → Type 0
IsBelow from None = ⊤
IsBelow from (Some p) = level_number p.level < from

-- what is plugged at an interface that has at least this level
abbrev pub ReadyAs : Ladder → ℕ → Level → Result Port NotReady → Type 0
ReadyAs x i from (Ok p) = (plugged_at i x ≡ Some p) × (level_number from ≤ level_number p.level)
ReadyAs x i from (Err not_ready.Below) = IsBelow (level_number from) (plugged_at i x)
ReadyAs x i from (Err not_ready.Taken) = ⊥

-- an interface that has a level has another at least
pub record Rises (old new : Ladder) (i : ℕ) (from to : Level) : Type 0 where
  pub port : Port
  pub there : plugged_at i old ≡ Some port
  pub enough : level_number from ≤ level_number port.level
  pub put : PutsAt old new i (Some (raised_to to port))

-- the device id of an interface
abbrev pub device_at : ℕ → Ladder → Option ℕ
device_at i x = option_and_then (λ p. p.device) (plugged_at i x)

-- Another interface has a device id, or none has.
abbrev pub HasOther : Ladder → ℕ → ℕ → Bool → Type 0
HasOther x i d true = (j : ℕ) × (j ≢ i) × (is_device d (device_at j x) ≡ true)
HasOther x i d false = (j : ℕ) → j ≢ i → is_device d (device_at j x) ≡ false

-- An interface that has a level has another at least, or nothing changes.
abbrev pub RisesAs : Ladder → Ladder → ℕ → Level → Level → Result (Unit {0}) NotReady → Type 0
RisesAs old new i from to (Ok u) = Rises old new i from to
RisesAs old new i from to (Err not_ready.Below) =
    IsBelow (level_number from) (plugged_at i old) × (new ≡ old)
RisesAs old new i from to (Err not_ready.Taken) = ⊥
