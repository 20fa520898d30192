-- Manifest descriptors (Greybus Specification, "Manifest"; in
-- Linux's greybus_manifest.h `greybus_descriptor`).
use Rattle.std.specs.Prelude.{◌≡◌, ◌<◌, ◌≤◌, ⊤, ℕ, ◌+◌, ◌-◌, ◌*◌, ◌/◌, ◌%◌, ◌==◌, if◌then◌else◌}
use Rattle.std.specs.Prelude.{List, [], ◌∷◌, ◌++◌, length, take, drop, slice_index, replicate}
use Rattle.byteorder.specs.Endian.{little_number}
use Rattle.gb_formats.specs.Bytes.{le16}

-- A descriptor: an interface's vendor string, product string and features; a string's id and bytes;
-- a bundle's id and class; or a CPort's id, bundle and protocol.
pub data Descriptor : Type 0 where
  Interface : ℕ → ℕ → ℕ → Descriptor
  Words : ℕ → List ℕ → Descriptor
  Bundle : ℕ → ℕ → Descriptor
  Cport : ℕ → ℕ → ℕ → Descriptor

-- the type of a descriptor
abbrev pub type_of : Descriptor → ℕ
type_of (Interface vendor product features) = 0x01
type_of (Words id bytes) = 0x02
type_of (Bundle id class) = 0x03
type_of (Cport id bundle protocol) = 0x04

-- the body of a descriptor, without pads and padding
abbrev pub body_of : Descriptor → List ℕ
body_of (Interface vendor product features) = vendor ∷ product ∷ features ∷ []
body_of (Words id bytes) = length bytes ∷ id ∷ bytes
body_of (Bundle id class) = id ∷ class ∷ []
body_of (Cport id bundle protocol) = le16 id ++ (bundle ∷ protocol ∷ [])

-- a number rounded up to a multiple of four
abbrev pub rounded_up : ℕ → ℕ
rounded_up n = (n + 3) / 4 * 4

-- the least size of a string descriptor whose string has so many bytes
abbrev pub words_size : ℕ → ℕ
words_size len = rounded_up (6 + len)

-- the least size of a descriptor
abbrev pub least_size : Descriptor → ℕ
least_size (Interface vendor product features) = 8
least_size (Words id bytes) = words_size (length bytes)
least_size (Bundle id class) = 8
least_size (Cport id bundle protocol) = 8

-- a CPort's id fits in its two bytes; all other fields have one byte
abbrev pub IdFits : Descriptor → Type 0
IdFits (Cport id bundle protocol) = id < 65536
IdFits _ = ⊤

-- The bytes are their own length, the type, any byte, the body, then any bytes. Their length is a
-- multiple of four and at least the least size.
pub record IsDescriptor (bytes : List ℕ) (d : Descriptor) : Type 0 where
  pub pad : ℕ
  pub rest : List ℕ
  pub spelt : bytes ≡ le16 (length bytes) ++ (type_of d ∷ pad ∷ body_of d ++ rest)
  pub fits : length bytes ≤ 65535
  pub id_fits : IdFits d
  pub fours : length bytes % 4 ≡ 0
  pub least : least_size d ≤ length bytes

-- a descriptor spelt with its least size and zero pads
abbrev pub plain_descriptor : Descriptor → List ℕ
plain_descriptor d =
    le16 (least_size d) ++ (type_of d ∷ 0 ∷ body_of d
    ++ replicate (least_size d - 4 - length (body_of d)) 0)

-- the size field at the front of a descriptor, and of a manifest
abbrev pub size_at : List ℕ → ℕ
size_at bytes = little_number 2 bytes

-- the type field of the descriptor at the front
abbrev pub type_at : List ℕ → ℕ
type_at bytes = slice_index bytes 2

-- the string's length in the string descriptor at the front
abbrev pub string_length_at : List ℕ → ℕ
string_length_at bytes = slice_index bytes 4

-- The least size of the descriptor at the front, by its type. That of a string is at least 8, so a
-- string descriptor of size 4, which has no length byte, is below it.
abbrev pub least_size_at : List ℕ → ℕ
least_size_at bytes =
    if type_at bytes == 0x02 then words_size (string_length_at bytes) else 8

-- the descriptor at the front, by its type
abbrev pub descriptor_at : List ℕ → Descriptor
descriptor_at bytes =
    if type_at bytes == 0x01
    then Interface (slice_index bytes 4) (slice_index bytes 5) (slice_index bytes 6)
    else if type_at bytes == 0x02
    then Words (slice_index bytes 5) (take (string_length_at bytes) (drop 6 bytes))
    else if type_at bytes == 0x03 then Bundle (slice_index bytes 4) (slice_index bytes 5)
    else Cport (little_number 2 (drop 4 bytes)) (slice_index bytes 6) (slice_index bytes 7)
