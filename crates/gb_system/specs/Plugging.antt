-- What the modules that are plugged answer and ask.
use Rattle.std.specs.Prelude.{◌≡◌, ◌≤◌, ◌+◌, ℕ, suc, nat_lt, if◌then◌else◌, Option, Some, None}
use Rattle.std.specs.Prelude.{Result, Ok, Err, List, [], ◌∷◌}
use Rattle.gb_base.specs.declared.errors.OutOfMemory.{OutOfMemory}
use Rattle.gb_base.specs.declared.event.Event.{Event}
use Rattle.gb_base.specs.declared.event.Event.TheVariants as event
use Rattle.gb_base.specs.declared.served.OwnAsk.{OwnAsk}
use Rattle.gb_base.specs.declared.served.Served.{Served}
use Rattle.gb_formats.specs.Devices.{Stir}
use Rattle.gb_formats.specs.Module.{Module}
use Rattle.gb_formats.specs.ModuleSteps.{module_serve, module_stir}
use Rattle.gb_formats.specs.Results.{Step, Stirred}
use Rattle.gb_machine.specs.Modules.{is_primary, with_module}
use Rattle.gb_machine.specs.State.{Plugged}
use Rattle.gb_module.specs.declared.stir.Stir as code
use Rattle.gb_module.specs.declared.stir.Stir.TheVariants as stir
use Rattle.gb_module.specs.declared.stir.StirFault.{StirFault}
use Rattle.gb_module.specs.declared.stir.StirFault.TheVariants as fault
use Rattle.gb_system.specs.declared.modules.Span.{Span}

-- so many interfaces from the primary one on are from 2 to 31
pub record IsWithin (primary count : ℕ) : Type 0 where
  pub least : 2 ≤ primary
  pub most : primary + count ≤ 32

-- the interfaces of the module of which this is a part
abbrev pub span_of : Plugged → Span
span_of p = record { primary = p.primary; count = p.count }

-- the same, where it is the part at the primary interface
abbrev pub told_span : Plugged → Option Span
told_span p = if is_primary p then Some (span_of p) else None

-- where the first part at a greater interface stands, or how many there are
abbrev pub place_behind : ℕ → List Plugged → ℕ
place_behind i [] = 0
place_behind i (p ∷ ps) = if nat_lt i p.intf then 0 else suc (place_behind i ps)

-- a module's step, and the modules after it
abbrev pub StepsThere : ℕ → Step Module → List Plugged → List Plugged → Option Served → Type 0
StepsThere i step old new served =
    (served ≡ Some step.served) × (new ≡ with_module i step.after old)

-- The module at an interface serves a request at a CPort, if one is plugged there. After want of
-- memory all are as before.
abbrev pub ServesThere : ℕ → ℕ → ℕ → List ℕ → Option Module → List Plugged → List Plugged
    → Result (Option Served) OutOfMemory → Type 0
ServesThere i c kind payload m old new (Err refused) = new ≡ old
ServesThere i c kind payload None old new (Ok served) = (served ≡ None) × (new ≡ old)
ServesThere i c kind payload (Some m) old new (Ok served) =
    StepsThere i (module_serve m c kind payload) old new served

-- a stir of a module, and the modules after it
abbrev pub StirsAt : ℕ → Option (Stirred Module) → List Plugged → List Plugged
    → Result (Option (List OwnAsk)) StirFault → Type 0
StirsAt i None old new result = (result ≡ Err fault.NoCport) × (new ≡ old)
StirsAt i (Some t) old new (Ok own) = (own ≡ Some t.asks) × (new ≡ with_module i t.after old)
StirsAt i (Some t) old new (Err fault.NoCport) = ⊥
StirsAt i (Some t) old new (Err (fault.Memory refused)) = new ≡ old

-- The device of a CPort of the module at an interface is stirred, if one is plugged. NoCport comes
-- exactly where it has no such device. After each fault all are as before.
abbrev pub StirsThere : ℕ → ℕ → Stir → Option Module → List Plugged → List Plugged
    → Result (Option (List OwnAsk)) StirFault → Type 0
StirsThere i c what None old new result = (result ≡ Ok None) × (new ≡ old)
StirsThere i c what (Some m) old new result = StirsAt i (module_stir m c what) old new result

-- the event by which something comes from outside
abbrev pub event_of_stir : ℕ → ℕ → code.Stir → Event
event_of_stir i c (stir.Level line value) = event.Level i c line value
event_of_stir i c (stir.Serial control) = event.SerialState i c control
