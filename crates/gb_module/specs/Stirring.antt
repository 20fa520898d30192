-- What a stir from outside answers.
use Rattle.std.specs.Prelude.{◌≡◌, ◌≤◌, ⊤, Option, Some, None, IsSome, Result, Ok, Err, List}
use Rattle.gb_base.specs.declared.errors.OutOfMemory.{OutOfMemory}
use Rattle.gb_base.specs.declared.served.OwnAsk.{OwnAsk}
use Rattle.gb_formats.specs.Devices.{irq_asks}
use Rattle.gb_formats.specs.GpioDevice.{GpioLine, Levelled}
use Rattle.gb_formats.specs.Results.{Stirred}
use Rattle.gb_module.specs.declared.stir.Stir.{Stir}
use Rattle.gb_module.specs.declared.stir.Stir.TheVariants as stir
use Rattle.gb_module.specs.declared.stir.StirFault.{StirFault}
use Rattle.gb_module.specs.declared.stir.StirFault.TheVariants as fault

-- a GPIO device has lines 0 to 7, whose level is 0 or 1
abbrev pub IsStir : Stir → Type 0
IsStir (stir.Level line value) = (line ≤ 7) × (value ≤ 1)
IsStir (stir.Serial control) = ⊤

-- A device or a module is stirred as the definition says, and makes the requests that it says.
-- NoCport comes exactly where it isn't stirred, and nothing changes. Nothing changes either after
-- want of memory, which only comes where it would be stirred.
abbrev pub StirsAs : {D : Type 0} → Option (Stirred D) → D → D → Result (List OwnAsk) StirFault
    → Type 0
StirsAs answer old new (Ok asks) = answer ≡ Some (record { after = new; asks = asks })
StirsAs answer old new (Err fault.NoCport) = (answer ≡ None) × (new ≡ old)
StirsAs answer old new (Err (fault.Memory refused)) = IsSome answer × (new ≡ old)

-- A level is set as the definition says, and an interrupt is told. After want of memory it isn't.
abbrev pub SetsLevel : Levelled → List GpioLine → List GpioLine
    → Result (List OwnAsk) OutOfMemory → Type 0
SetsLevel set old new (Ok asks) = (new ≡ set.after) × (asks ≡ irq_asks set.irq)
SetsLevel set old new (Err refused) = new ≡ old
