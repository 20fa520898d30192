-- The bytes of fields, and what writing them does.
use Rattle.std.specs.Prelude.{◌≡◌, ◌<◌, ◌≤◌, ℕ, Result, Ok, Err, List, [], ◌∷◌, ◌++◌, length, drop}
use Rattle.gb_base.specs.declared.errors.NoRoom.{NoRoom}
use Rattle.gb_formats.specs.Bytes.{le16}
use Rattle.gb_formats.specs.Records.{le32}
use Rattle.gb_payload.specs.declared.writing.Field.{Field}
use Rattle.gb_payload.specs.declared.writing.Field.TheVariants as field

-- the bytes of a field
abbrev pub field_bytes : Field → List ℕ
field_bytes (field.U8 n) = n ∷ []
field_bytes (field.U16 n) = le16 n
field_bytes (field.U32 n) = le32 n
field_bytes (field.Bytes bytes) = bytes.now

-- the bytes of fields, one after the other
abbrev pub spelled : List Field → List ℕ
spelled [] = []
spelled (f ∷ fs) = field_bytes f ++ spelled fs

-- Bytes fit into so much room, of which they take their length, or they don't.
abbrev pub Fits : List ℕ → ℕ → Result ℕ NoRoom → Type 0
Fits bytes room (Ok n) = (n ≡ length bytes) × (length bytes ≤ room)
Fits bytes room (Err refused) = room < length bytes

-- Bytes are written to the front of `old`, which keeps its rest, or there is no room
-- and nothing changes.
abbrev pub Puts : List ℕ → List ℕ → List ℕ → Result ℕ NoRoom → Type 0
Puts bytes old new (Ok n) =
    (n ≡ length bytes) × (length bytes ≤ length old) × (new ≡ bytes ++ drop (length bytes) old)
Puts bytes old new (Err refused) = (length old < length bytes) × (new ≡ old)
