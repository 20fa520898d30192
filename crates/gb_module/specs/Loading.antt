-- Firmware downloads of a module and of its parts.
use Rattle.std.specs.Prelude.{◌≡◌, ⊤, ℕ, true, false, if◌then◌else◌, Option, Some, None, IfOk}
use Rattle.std.specs.Prelude.{IfSome, IsSomeAnd, option_and_then, option_map, Result, Ok, Err}
use Rattle.gb_base.specs.declared.download.Next.{Next}
use Rattle.gb_base.specs.declared.download.Next.TheVariants as next
use Rattle.gb_base.specs.declared.errors.OutOfMemory.{OutOfMemory}
use Rattle.gb_base.specs.declared.outcome.Outcome.{Outcome}
use Rattle.gb_base.specs.declared.refusal.Refusal.{Refusal}
use Rattle.gb_base.specs.declared.refusal.Refusal.TheVariants as why
use Rattle.gb_formats.specs.Devices.{Firmware}
use Rattle.gb_formats.specs.Loader.{Loaded, Loader, is_running, loader_ended}
use Rattle.gb_formats.specs.Module.{CportState, Module, ModulePort, cport_state, is_on}
use Rattle.gb_formats.specs.ModuleLoads.{ModuleLoaded, if_may_ask, loader_at}

-- a download runs
abbrev pub Runs : Option Loader → Type 0
Runs loader = option_map is_running loader ≡ Some true

-- there is a loader, and no download runs
abbrev pub IsIdle : Option Loader → Type 0
IsIdle loader = option_map is_running loader ≡ Some false

-- ---- a load

-- why a loader can't begin a download
abbrev pub busy_refusal : Loader → Option Refusal
busy_refusal l = if is_running l then Some why.Occupied else None

-- why no download can begin, by the state of the CPort and its loader
abbrev pub loader_refusal : CportState → Option Loader → Option Refusal
loader_refusal state None = Some why.NoCport
loader_refusal state (Some l) = if is_on state then busy_refusal l else Some why.NoConnection

-- Why no download can begin at a CPort: there is no firmware device, the CPort isn't on, or a
-- download runs. None where one can begin.
abbrev pub load_refusal : Module → ℕ → Option Refusal
load_refusal m c = loader_refusal (cport_state m c) (loader_at m c)

-- why a call was refused, None where it wasn't
abbrev pub refusal_in : {A : Type 0} → Result A Refusal → Option Refusal
refusal_in (Ok done) = None
refusal_in (Err why) = Some why

-- ---- the end of the request that a download waits for

-- what follows at a loader, None where no download runs
abbrev pub follows : Outcome → Option Loader → Option Loaded
follows how loader = option_and_then (loader_ended how) loader

-- what follows at the loader of a CPort in this state
abbrev pub follows_in : CportState → Outcome → Option Loader → Option Loaded
follows_in state how loader = option_map (if_may_ask state) (follows how loader)

-- a CPort with this loader
abbrev pub with_its_loader : ModulePort → Loader → ModulePort
with_its_loader port l = record port { device = Firmware l }

-- A device or a CPort has the loader that is left then, and this follows.
abbrev pub IsLoaded : {D : Type 0} → (Loader → D) → Loaded → D → Next → Type 0
IsLoaded with_it t new next = (new ≡ with_it t.after) × (next ≡ t.next)

-- What follows at a device or a CPort is answered, and it has its loader as it is then. Nothing
-- changes where nothing follows, or after want of memory.
abbrev pub FollowsAs : {D : Type 0} → (Loader → D) → Option Loaded → D → D
    → Result (Option Next) OutOfMemory → Type 0
FollowsAs with_it answer old new (Ok None) = (answer ≡ None) × (new ≡ old)
FollowsAs with_it answer old new (Ok (Some next)) =
    IsSomeAnd answer (λ t. IsLoaded with_it t new next)
FollowsAs with_it answer old new (Err refused) = new ≡ old

-- What follows at a module is answered, and the module is as it is then. Nothing changes where
-- nothing follows, or after want of memory.
abbrev pub EndsAs : Option ModuleLoaded → Module → Module → Result (Option Next) OutOfMemory
    → Type 0
EndsAs answer old new (Ok None) = (answer ≡ None) × (new ≡ old)
EndsAs answer old new (Ok (Some next)) = answer ≡ Some (record { after = new; next = next })
EndsAs answer old new (Err refused) = new ≡ old

-- a download runs where this is a next request of it
abbrev pub RunsToAsk : Option Loader → Next → Type 0
RunsToAsk loader (next.Ask own) = Runs loader
RunsToAsk loader _ = ⊤

-- A next request is answered only where the download still runs.
abbrev pub RunsOn : Option Loader → Result (Option Next) OutOfMemory → Type 0
RunsOn loader result = IfOk result (λ o. IfSome o (RunsToAsk loader))
