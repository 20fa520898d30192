-- The GPIO device of a module: requests at lines, levels from outside, and interrupts.
use Rattle.std.proofs.Common.{◌≡◌, ℕ, Bool, true, false, List, [], ◌∷◌, refl}
use Rattle.std.specs.Prelude.{Some, None, Option, map}
use Rattle.gb_base.specs.declared.event.Kind.TheVariants as kind
use Rattle.gb_base.specs.declared.served.OwnAsk.{OwnAsk}
use Rattle.gb_formats.specs.GpioDevice.{irq_fits}
use Rattle.gb_formats.specs.Devices.{Stir}
use Rattle.gb_formats.specs.Module.{Module, module_of_kind, module_raw}
use Rattle.gb_formats.specs.ModuleSteps.{module_stir}
use Rattle.gb_formats.specs.Results.{Stirred, answer_of, refusal_of, oneway_ask}
use Rattle.gb_formats.proofs.VectorsDevices.{Request, answers_of, after_all, connected, asks_at}

-- what fits each interrupt type: a level that stays 0, rises, falls and stays 1
abbrev pub fits_of : ℕ → List Bool
fits_of irq =
    irq_fits irq 0 0 ∷ irq_fits irq 0 1 ∷ irq_fits irq 1 0 ∷ irq_fits irq 1 1 ∷ []

pub irq-fits : map fits_of (0 ∷ 1 ∷ 2 ∷ 3 ∷ 4 ∷ 8 ∷ [])
    ≡ (false ∷ false ∷ false ∷ false ∷ [])
    ∷ (false ∷ true ∷ false ∷ false ∷ [])
    ∷ (false ∷ false ∷ true ∷ false ∷ [])
    ∷ (false ∷ true ∷ true ∷ false ∷ [])
    ∷ (false ∷ true ∷ false ∷ true ∷ [])
    ∷ (true ∷ false ∷ true ∷ false ∷ [])
    ∷ []
irq-fits = refl

-- ---- a GPIO interrupt

-- `activate 3`, `irq 3 1`, `unmask 3`
abbrev pub unmasked : Module
unmasked = after_all (connected kind.Gpio)
    ((1, 0x03, 3 ∷ []) ∷ (1, 0x0b, 3 ∷ 1 ∷ []) ∷ (1, 0x0d, 3 ∷ []) ∷ [])

pub irq-told : asks_at unmasked 1 (Stir.Level 3 1) ≡ Some (oneway_ask 0x0e (3 ∷ []) ∷ [])
irq-told = refl

pub irq-not_told : map (λ stir. asks_at unmasked 1 stir) (Stir.Level 3 0 ∷ Stir.Level 2 1 ∷ [])
    ≡ Some [] ∷ Some [] ∷ []
irq-not_told = refl

-- a stir where there is no such device
pub stir-no_cport : asks_at unmasked 2 (Stir.Level 3 1) ≡ None
stir-no_cport = refl

pub stir-other_device : asks_at unmasked 1 (Stir.Serial 1) ≡ None
stir-other_device = refl

-- the module after a stir
abbrev pub after_stir : Option (Stirred Module) → Module
after_stir (Some s) = s.after
after_stir None = module_raw []

-- a level stays over CONNECTED, and is no interrupt while the CPort is off
pub level-stays : answers_of
    (after_stir (module_stir (module_of_kind kind.Gpio) 1 (Stir.Level 3 1)))
    ((0, 0x05, 1 ∷ 0 ∷ []) ∷ (1, 0x03, 3 ∷ []) ∷ (1, 0x08, 3 ∷ []) ∷ (1, 0x08, 2 ∷ []) ∷ [])
    ≡ answer_of [] ∷ answer_of [] ∷ answer_of (1 ∷ []) ∷ refusal_of 0x06 ∷ []
level-stays = refl

-- requests at lines, in order
pub gpio-answers : answers_of (connected kind.Gpio)
    ((1, 0x02, []) ∷ (1, 0x05, 3 ∷ []) ∷ (1, 0x03, 3 ∷ []) ∷ (1, 0x05, 3 ∷ [])
    ∷ (1, 0x09, 3 ∷ 1 ∷ []) ∷ (1, 0x07, 3 ∷ 2 ∷ []) ∷ (1, 0x07, 3 ∷ 1 ∷ []) ∷ (1, 0x05, 3 ∷ [])
    ∷ (1, 0x08, 3 ∷ []) ∷ (1, 0x09, 3 ∷ 0 ∷ []) ∷ (1, 0x08, 3 ∷ []) ∷ (1, 0x09, 3 ∷ 2 ∷ [])
    ∷ (1, 0x06, 3 ∷ []) ∷ (1, 0x08, 3 ∷ []) ∷ (1, 0x0a, 3 ∷ 0xe8 ∷ 3 ∷ [])
    ∷ (1, 0x0b, 3 ∷ 5 ∷ []) ∷ (1, 0x0b, 3 ∷ 8 ∷ []) ∷ (1, 0x0c, 3 ∷ []) ∷ (1, 0x0d, 3 ∷ [])
    ∷ (1, 0x04, 3 ∷ []) ∷ (1, 0x04, 3 ∷ []) ∷ (1, 0x0c, 3 ∷ []) ∷ (1, 0x03, 8 ∷ [])
    ∷ (1, 0x09, 8 ∷ 7 ∷ []) ∷ (1, 0x03, []) ∷ (1, 0x0e, 3 ∷ []) ∷ (1, 0x01, []) ∷ [])
    ≡ answer_of (7 ∷ []) ∷ refusal_of 0x06 ∷ answer_of [] ∷ answer_of (1 ∷ [])
    ∷ refusal_of 0x06 ∷ refusal_of 0x06 ∷ answer_of [] ∷ answer_of (0 ∷ [])
    ∷ answer_of (1 ∷ []) ∷ answer_of [] ∷ answer_of (0 ∷ []) ∷ refusal_of 0x06
    ∷ answer_of [] ∷ answer_of (0 ∷ []) ∷ answer_of []
    ∷ refusal_of 0x06 ∷ answer_of [] ∷ answer_of [] ∷ answer_of []
    ∷ answer_of [] ∷ answer_of [] ∷ refusal_of 0x06 ∷ refusal_of 0x08
    ∷ refusal_of 0x08 ∷ refusal_of 0x06 ∷ refusal_of 0x04 ∷ refusal_of 0x04 ∷ []
gpio-answers = refl

-- a high level at line 3 after more requests: masked, out, inactive, and on a CPort that is quiet
abbrev pub high_after : List Request → Option (List OwnAsk)
high_after requests = asks_at (after_all unmasked requests) 1 (Stir.Level 3 1)

pub irq-only_ready : map high_after
    (((1, 0x05, 3 ∷ []) ∷ [])
    ∷ ((1, 0x0c, 3 ∷ []) ∷ [])
    ∷ ((1, 0x07, 3 ∷ 0 ∷ []) ∷ [])
    ∷ ((1, 0x04, 3 ∷ []) ∷ [])
    ∷ ((0, 0x0c, 1 ∷ 0 ∷ []) ∷ [])
    ∷ [])
    ≡ Some (oneway_ask 0x0e (3 ∷ []) ∷ []) ∷ Some [] ∷ Some [] ∷ Some [] ∷ Some [] ∷ []
irq-only_ready = refl
