-- What reading and writing mean, in words that don't go by the tables: the type and the payload of
-- a record, and what can become of the beginning of a payload.
use Rattle.std.specs.Prelude.{◌≡◌, ◌≢◌, ◌<◌, ◌≤◌, ℕ, Result, Ok, Err, List, ◌++◌, length, take}
use Rattle.gb_base.specs.Bytes.{AreBytes}
use Rattle.gb_formats.specs.Records as formats
use Rattle.gb_payload.specs.declared.payload_fault.PayloadFault.{PayloadFault}
use Rattle.gb_payload.specs.declared.payload_fault.PayloadFault.TheVariants as fault

-- The records of one direction of a protocol: which one a payload of a type is, and the type and
-- the payload of each.
pub record Format (A : Type 0) : Type 0 where
  pub read : ℕ → List ℕ → Result A formats.PayloadFault
  pub kind : A → ℕ
  pub payload : A → List ℕ

-- Bytes go on to a record of the type: with some bytes behind them, or none, they are its payload.
pub record GoesOn {A : Type 0} (format : Format A) (kind : ℕ) (bytes : List ℕ) : Type 0 where
  pub rest : List ℕ
  pub made : A
  pub are_bytes : AreBytes rest
  pub reads : format.read kind (bytes ++ rest) ≡ Ok made

-- The place at which a payload parts from all records of its type, of which there are some. They go
-- on from each shorter front of it. From the front of this length none goes on, unless it is all of
-- the payload, which is then too short.
pub record IsPlace {A : Type 0} (format : Format A) (kind : ℕ) (payload : List ℕ)
    (at : ℕ) : Type 0 where
  pub known : (made : A) × (format.kind made ≡ kind)
  pub wrong : (made : A) → format.read kind payload ≢ Ok made
  pub within : at ≤ length payload
  pub before : (n : ℕ) → n < at → GoesOn format kind (take n payload)
  pub there : GoesOn format kind (take at payload) → at ≡ length payload

-- no record has the type
abbrev pub HasNone : {A : Type 0} → Format A → ℕ → Type 0
HasNone {A} format kind = (made : A) → format.kind made ≢ kind

-- What an answer to reading a payload of a type means. A record has the type and the payload.
-- UnknownKind is the answer where no record has the type. A mismatch tells the place.
abbrev pub Means : {A B : Type 0} → Format A → (B → A) → ℕ → List ℕ → Result B PayloadFault → Type 0
Means format view kind payload (Ok value) =
    (format.kind (view value) ≡ kind) × (format.payload (view value) ≡ payload)
Means format view kind payload (Err fault.UnknownKind) = HasNone format kind
Means format view kind payload (Err (fault.Mismatch at)) = IsPlace format kind payload at

-- What is written is read again as the same record.
abbrev pub IsRead : {A : Type 0} → Format A → A → List ℕ → Type 0
IsRead format made bytes = format.read (format.kind made) bytes ≡ Ok made
