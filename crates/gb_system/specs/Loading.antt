-- What follows in firmware downloads, in the order of the parties: the module first, and then what
-- is asked and told.
use Rattle.std.specs.Prelude.{◌≡◌, ◌≤◌, ◌<◌, ⊤, ℕ, Bool, if◌then◌else◌, Option, Some, None}
use Rattle.std.specs.Prelude.{option_and_then, option_map, Result, Ok, Err, List, length}
use Rattle.gb_base.specs.declared.download.Next.{Next}
use Rattle.gb_base.specs.declared.download.Next.TheVariants as next
use Rattle.gb_base.specs.declared.end.Side.TheVariants as side
use Rattle.gb_base.specs.declared.entry.Entry.TheVariants as entry
use Rattle.gb_base.specs.declared.outcome.Outcome.{Outcome}
use Rattle.gb_base.specs.declared.refusal.Refusal.{Refusal}
use Rattle.gb_base.specs.declared.refusal.Refusal.TheVariants as why
use Rattle.gb_base.specs.declared.served.OwnAsk.{OwnAsk}
use Rattle.gb_bus.specs.Wiring.{number_of}
use Rattle.gb_formats.specs.Loader.{find_ask}
use Rattle.gb_formats.specs.Module.{Module}
use Rattle.gb_formats.specs.ModuleLoads.{ModuleLoaded, module_ended, module_fail, module_load}
use Rattle.gb_formats.specs.ModuleLoads.{tag_at}
use Rattle.gb_formats.specs.Results.{most_payload}
use Rattle.gb_machine.specs.Actions.{Action, by_state, change, given, tell, ◌▸◌}
use Rattle.gb_machine.specs.Bus.{Bus, Place, next_number}
use Rattle.gb_machine.specs.Labels.{next_label}
use Rattle.gb_machine.specs.Lists.{first_met}
use Rattle.gb_machine.specs.Loading.{last_asked}
use Rattle.gb_machine.specs.Modules.{module_at, with_module}
use Rattle.gb_machine.specs.OwnAsking.{far_asks}
use Rattle.gb_machine.specs.Refusals.{load_conditions, module_place}
use Rattle.gb_machine.specs.State.{Load, Plugged, State}
use Rattle.gb_module.specs.Loading.{load_refusal}

-- ---- the last requests of firmware devices

-- whose request it is: the interface and the CPort
abbrev pub whose : Load → ℕ × ℕ
whose l = (l.intf, l.cport)

-- request n is the last one of the firmware device at a CPort
abbrev pub with_last : ℕ → ℕ → ℕ → State → State
with_last i c n s = record s { loads = last_asked i c n s.loads }

-- The firmware device at a CPort makes a request on connection k, which is its last one.
unfoldable pub asks_last : ℕ → ℕ → ℕ → OwnAsk → Action
asks_last k i c own = by_state (λ s.
    change (with_last i c (next_number s.bus)) ▸ far_asks k own)

-- ---- on which connection

-- connection k, where an identifier is left
abbrev pub way_by : Option ℕ → ℕ → Option ℕ
way_by None k = None
way_by (Some label) k = Some k

-- the connection of a place, where there is one and an identifier is left
abbrev pub way_at : Option Place → Bus → Option ℕ
way_at None b = None
way_at (Some p) b = way_by (next_label p.connection.number side.Far b) p.connection.number

-- The connection on which the firmware device at a CPort can make a request.
abbrev pub load_way : ℕ → ℕ → State → Option ℕ
load_way i c s = way_at (module_place i c s) s.bus

-- ---- what a module is then, and what follows

-- a failure takes the place of a request
abbrev pub unmade : Next → ℕ → ModuleLoaded → ModuleLoaded
unmade (next.Ask own) c t =
    record { after = module_fail t.after c; next = next.Failed (tag_at t.after c) }
unmade _ c t = t

-- a request is made only where one can be made
abbrev pub if_can : Bool → ℕ → ModuleLoaded → ModuleLoaded
if_can can c t = if can then t else unmade t.next c t

-- What follows at a CPort whose request ended, None where no download runs there.
abbrev pub follows_at : Bool → ℕ → Outcome → Module → Option ModuleLoaded
follows_at can c how m = option_map (if_can can c) (module_ended m c how)

-- the module at an interface is so then, and this follows
abbrev pub LoadsAt : ℕ → Option ModuleLoaded → List Plugged → List Plugged → Option Next → Type 0
LoadsAt i None old new result = (result ≡ None) × (new ≡ old)
LoadsAt i (Some t) old new result = (result ≡ Some t.next) × (new ≡ with_module i t.after old)

-- What follows at a CPort of the module at an interface, nothing where none is plugged.
abbrev pub LoadsThere : Bool → ℕ → ℕ → Outcome → List Plugged → List Plugged → Option Next → Type 0
LoadsThere can i c how old new result =
    LoadsAt i (option_and_then (follows_at can c how) (module_at i old)) old new result

-- The last request of a firmware device is made, or the end of its download is told.
unfoldable pub follows_by : ℕ → ℕ → Option ℕ → Next → Action
follows_by i c way (next.Ask own) = given way (λ k. asks_last k i c own)
follows_by i c way (next.Done tag size) = tell (entry.Download i c tag (Some size))
follows_by i c way (next.Failed tag) = tell (entry.Download i c tag None)

-- A request that follows can be made.
abbrev pub IsFit : Next → Type 0
IsFit (next.Ask own) = (own.kind < 128) × (length own.payload ≤ most_payload)
IsFit _ = ⊤

-- ---- a load

-- why no download begins at a CPort, as far as the module decides
abbrev pub module_refusal : Option Module → ℕ → Option Refusal
module_refusal None c = Some why.NoInterface
module_refusal (Some m) c = load_refusal m c

-- why none begins where the CPort isn't wired, by what the module decides
abbrev pub unwired_why : Option Refusal → Refusal
unwired_why (Some why.NoInterface) = why.NoInterface
unwired_why (Some why.NoCport) = why.NoCport
unwired_why _ = why.NoConnection

-- The module at an interface begins to download the image of a tag.
abbrev pub BeginsAt : ℕ → ℕ → List ℕ → Option Module → List Plugged → List Plugged → OwnAsk → Type 0
BeginsAt i c tag None old new own = ⊥
BeginsAt i c tag (Some m) old new own =
    (own ≡ find_ask tag) × (new ≡ with_module i (module_load m c tag) old)

-- The answer is the connection of a download exactly where no condition is met, and else the first.
abbrev pub LoadsOver : State → ℕ → ℕ → Result ℕ Refusal → Type 0
LoadsOver s i c (Ok k) =
    (first_met (load_conditions s i c) ≡ None)
    × (option_map number_of (module_place i c s) ≡ Some k)
LoadsOver s i c (Err why) = first_met (load_conditions s i c) ≡ Some why
