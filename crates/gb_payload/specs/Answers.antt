-- What reading a payload answers.
use Rattle.std.specs.Prelude.{◌≡◌, ◌≢◌, ℕ, ◌+◌, min, Result, Ok, Err, List, length}
use Rattle.gb_formats.specs.Records as formats
use Rattle.gb_payload.specs.declared.payload_fault.PayloadFault.{PayloadFault}
use Rattle.gb_payload.specs.declared.payload_fault.PayloadFault.TheVariants as fault
use Rattle.gb_payload.specs.declared.reading.Fields.{Fields}

-- the fault that a value of the code stands for
abbrev pub fault_of : PayloadFault → formats.PayloadFault
fault_of fault.UnknownKind = formats.PayloadFault.UnknownKind
fault_of (fault.Mismatch at) = formats.PayloadFault.Mismatch at

-- A call answers what a definition does, of whose records its own are views.
abbrev pub Answers : {A B : Type 0} → (B → A) → Result A formats.PayloadFault
    → Result B PayloadFault → Type 0
Answers view answer (Ok value) = answer ≡ Ok (view value)
Answers view answer (Err why) = answer ≡ Err (fault_of why)

-- All of a payload is there to be read, or it hasn't the size of its record.
abbrev pub HasSize : ℕ → List ℕ → Result Fields PayloadFault → Type 0
HasSize size payload (Ok fields) = (length payload ≡ size) × (fields.rest.now ≡ payload)
HasSize size payload (Err why) =
    (length payload ≢ size)
    × (fault_of why ≡ formats.PayloadFault.Mismatch (min (length payload) (size + 1)))
