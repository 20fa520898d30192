-- How images are given and lent.
use Rattle.std.specs.Prelude.{◌≡◌, ◌≢◌, ◌≤◌, ⊤, None, IsOk, Result, Ok, Err, ℕ, List, length}
use Rattle.gb_base.specs.Bytes.{AreFew}
use Rattle.gb_base.specs.declared.errors.OutOfMemory.{OutOfMemory}
use Rattle.gb_base.specs.declared.served.Served.{Served}
use Rattle.gb_firmware.specs.declared.images.PutFault.{PutFault}
use Rattle.gb_firmware.specs.declared.images.PutFault.TheVariants as fault
use Rattle.gb_formats.specs.Images.{Images, image_of, with_image}
use Rattle.gb_formats.specs.Results.{Step}

-- It isn't given: its tag has an image, or no memory was found.
abbrev pub IsNotPut : List ℕ → Images → PutFault → Type 0
IsNotPut tag x fault.Taken = image_of tag x ≢ None
IsNotPut tag x (fault.Memory refused) = image_of tag x ≡ None

-- An image is given, or the images are as before.
abbrev pub PutsAs : List ℕ → List ℕ → Images → Images → Result ⊤ PutFault → Type 0
PutsAs tag bytes old new (Ok done) =
    (image_of tag old ≡ None) × (new ≡ with_image tag bytes old)
PutsAs tag bytes old new (Err why) = IsNotPut tag old why × (new ≡ old)

-- An answer of few bytes takes no memory where no image is lent by it.
abbrev pub FewSucceed : Step Images → Images → Result Served OutOfMemory → Type 0
FewSucceed step old result =
    AreFew step.served.payload → length step.after.loans ≤ length old.loans → IsOk result
