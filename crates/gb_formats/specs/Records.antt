-- Payload records: how the bytes of a payload are the fields of a row of a protocol's table.
use Rattle.std.specs.Prelude.{ℕ, ◌+◌, ◌%◌, ◌==◌, min, Bool, true, false, if◌then◌else◌, Option}
use Rattle.std.specs.Prelude.{Some, None, Result, Ok, Err, List, [], ◌∷◌, length, drop, slice_index}
use Rattle.std.specs.Prelude.{sum, find}
use Rattle.byteorder.specs.Endian.{little_bytes, little_number}

-- Why a payload isn't a record of a type: the protocol hasn't the type, or no record of the type
-- begins with this many bytes of the payload, and one does with fewer. Where the payload is short
-- the place is its length.
pub data PayloadFault : Type 0 where
  UnknownKind : PayloadFault
  Mismatch : ℕ → PayloadFault

-- a field of one byte
abbrev pub u8 : ℕ
u8 = 1

-- a field of two bytes, the lowest first
abbrev pub u16 : ℕ
u16 = 2

-- a field of four bytes, the lowest first
abbrev pub u32 : ℕ
u32 = 4

-- the four bytes of a number, the lowest first
abbrev pub le32 : ℕ → List ℕ
le32 n = little_bytes 4 n

-- bit 0 of the flags of an I2C op or an SPI entry: it reads
abbrev pub has_read_flag : ℕ → Bool
has_read_flag flags = flags % 2 == 1

-- A row of a table: a type, the widths of its fields, and the record that the fields make. Requests
-- of the type are made by the application processor, or are the far side's own: the supervisory
-- controller or the module makes them.
pub record Row (A : Type 0) : Type 0 where
  pub kind : ℕ
  pub own : Bool
  pub widths : List ℕ
  pub made : List ℕ → A

-- a row without fields
abbrev pub row0 : {A : Type 0} → ℕ → A → Row A
row0 kind made = record { kind = kind; own = false; widths = []; made = λ fields. made }

-- a row of one field
abbrev pub row1 : {A : Type 0} → ℕ → ℕ → (ℕ → A) → Row A
row1 kind a made = record {
  kind = kind;
  own = false;
  widths = a ∷ [];
  made = λ f. made (slice_index f 0);
}

-- a row of two fields
abbrev pub row2 : {A : Type 0} → ℕ → ℕ → ℕ → (ℕ → ℕ → A) → Row A
row2 kind a b made = record {
  kind = kind;
  own = false;
  widths = a ∷ b ∷ [];
  made = λ f. made (slice_index f 0) (slice_index f 1);
}

-- a row of three fields
abbrev pub row3 : {A : Type 0} → ℕ → ℕ → ℕ → ℕ → (ℕ → ℕ → ℕ → A) → Row A
row3 kind a b c made = record {
  kind = kind;
  own = false;
  widths = a ∷ b ∷ c ∷ [];
  made = λ f. made (slice_index f 0) (slice_index f 1) (slice_index f 2);
}

-- a row of four fields
abbrev pub row4 : {A : Type 0} → ℕ → ℕ → ℕ → ℕ → ℕ → (ℕ → ℕ → ℕ → ℕ → A) → Row A
row4 kind a b c d made = record {
  kind = kind;
  own = false;
  widths = a ∷ b ∷ c ∷ d ∷ [];
  made = λ f. made (slice_index f 0) (slice_index f 1) (slice_index f 2) (slice_index f 3);
}

-- a row of five fields
abbrev pub row5 : {A : Type 0} → ℕ → ℕ → ℕ → ℕ → ℕ → ℕ → (ℕ → ℕ → ℕ → ℕ → ℕ → A) → Row A
row5 kind a b c d e made = record {
  kind = kind;
  own = false;
  widths = a ∷ b ∷ c ∷ d ∷ e ∷ [];
  made = λ f. made (slice_index f 0) (slice_index f 1) (slice_index f 2) (slice_index f 3)
      (slice_index f 4);
}

-- a row of six fields
abbrev pub row6 : {A : Type 0} → ℕ → ℕ → ℕ → ℕ → ℕ → ℕ → ℕ
    → (ℕ → ℕ → ℕ → ℕ → ℕ → ℕ → A) → Row A
row6 kind a b c d e g made = record {
  kind = kind;
  own = false;
  widths = a ∷ b ∷ c ∷ d ∷ e ∷ g ∷ [];
  made = λ f. made (slice_index f 0) (slice_index f 1) (slice_index f 2) (slice_index f 3)
      (slice_index f 4) (slice_index f 5);
}

-- a row of requests that the far side makes
abbrev pub by_far : {A : Type 0} → Row A → Row A
by_far row = record row { own = true }

-- the numbers of these widths in a row, each with its lowest byte first
abbrev pub fields_of : List ℕ → List ℕ → List ℕ
fields_of [] bytes = []
fields_of (width ∷ widths) bytes = little_number width bytes ∷ fields_of widths (drop width bytes)

-- A record of so many bytes is the whole payload. A longer payload parts from it at the first byte
-- too many, a shorter one at its end.
abbrev pub whole : {A : Type 0} → ℕ → List ℕ → A → Result A PayloadFault
whole size payload made =
    if length payload == size then Ok made else Err (Mismatch (min (length payload) (size + 1)))

-- the record of a row, if there is one of the type
abbrev pub read_row : {A : Type 0} → Option (Row A) → List ℕ → Result A PayloadFault
read_row None payload = Err UnknownKind
read_row (Some row) payload =
    whole (sum row.widths) payload (row.made (fields_of row.widths payload))

-- the row of a type, if there is one
abbrev pub row_of : {A : Type 0} → List (Row A) → ℕ → Option (Row A)
row_of rows kind = find (λ row. row.kind == kind) rows

-- the record of a type that a payload is, by a table
abbrev pub read_table : {A : Type 0} → List (Row A) → ℕ → List ℕ → Result A PayloadFault
read_table rows kind payload = read_row (row_of rows kind) payload

-- a row of requests that the application processor makes
abbrev pub unless_own : {A : Type 0} → Option (Row A) → Option (Row A)
unless_own None = None
unless_own (Some row) = if row.own then None else Some row

-- a row of requests that the far side makes
abbrev pub if_own : {A : Type 0} → Option (Row A) → Option (Row A)
if_own None = None
if_own (Some row) = if row.own then Some row else None

-- the far side makes the requests of a row
abbrev pub is_own : {A : Type 0} → Option (Row A) → Bool
is_own None = false
is_own (Some row) = row.own

-- the request of the application processor that a payload is, by a table
abbrev pub read_ap_ask : {A : Type 0} → List (Row A) → ℕ → List ℕ → Result A PayloadFault
read_ap_ask rows kind payload = read_row (unless_own (row_of rows kind)) payload

-- the request of the far side that a payload is, by a table
abbrev pub read_far_ask : {A : Type 0} → List (Row A) → ℕ → List ℕ → Result A PayloadFault
read_far_ask rows kind payload = read_row (if_own (row_of rows kind)) payload
