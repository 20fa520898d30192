-- How the application processor is given an image.
use Rattle.std.specs.Prelude.{◌≡◌, ⊤, ℕ, Some, None, Result, Ok, Err, List}
use Rattle.gb_base.specs.declared.refusal.Refusal.TheVariants as why
use Rattle.gb_firmware.specs.declared.images.PutFault.{PutFault}
use Rattle.gb_firmware.specs.declared.images.PutFault.TheVariants as fault
use Rattle.gb_host.specs.Stands.{IsUnchanged, Stands}
use Rattle.gb_host.specs.declared.host.Host.{Host}
use Rattle.gb_machine.specs.Host as machine
use Rattle.gb_machine.specs.Host.{with_given}
use Rattle.gb_machine.specs.HostRefusals.{image_conditions}
use Rattle.gb_machine.specs.Lists.{first_met}

-- It isn't given: it is refused, or no memory was found.
abbrev pub IsNotGiven : List ℕ → machine.Host → PutFault → Type 0
IsNotGiven tag h fault.Taken = first_met (image_conditions tag h) ≡ Some why.Occupied
IsNotGiven tag h (fault.Memory refused) = first_met (image_conditions tag h) ≡ None

-- An image is given exactly where that isn't refused, or nothing has changed.
abbrev pub GivesAs : List ℕ → List ℕ → machine.Host → Host → Host → Result ⊤ PutFault → Type 0
GivesAs tag bytes h old new (Ok done) =
    (first_met (image_conditions tag h) ≡ None) × Stands new (with_given tag bytes h)
GivesAs tag bytes h old new (Err why) = IsNotGiven tag h why × IsUnchanged old new
