-- How bytes spell messages, one and many (Greybus Specification, "Operation Messages"; in Linux's
-- greybus_protocols.h `gb_operation_msg_hdr`).
use Rattle.std.specs.Prelude.{◌≡◌, ◌<◌, ◌≤◌, ◌≢◌, ◌⊎◌, ℕ, ◌-◌, ◌==◌, nat_lt, Bool, not, ◌&&◌}
use Rattle.std.specs.Prelude.{if◌then◌else◌, Result, Ok, Err, List, [], ◌∷◌, ◌++◌, length, take}
use Rattle.std.specs.Prelude.{drop, slice_index}
use Rattle.byteorder.specs.Endian.{little_number}
use Rattle.gb_base.specs.declared.reasons.RawFault.{RawFault}
use Rattle.gb_base.specs.declared.reasons.RawFault.TheVariants as raw
use Rattle.gb_base.specs.declared.reasons.WireFault.{WireFault}
use Rattle.gb_base.specs.declared.reasons.WireFault.TheVariants as wire
use Rattle.gb_formats.specs.Bytes.{le16}
use Rattle.gb_formats.specs.Message.{Message, message_size}

-- how many bytes a header has
abbrev pub header_size : ℕ
header_size = 8

-- how many bytes the greatest payload has whose message the size field can tell
abbrev pub longest_spelled_payload : ℕ
longest_spelled_payload = 65527

-- Bytes spell a message: size, identifier, type, result, two bytes of any value, and the payload.
-- A request has result 0.
pub record Spells (bytes : List ℕ) (m : Message) : Type 0 where
  pub pad1 : ℕ
  pub pad2 : ℕ
  pub spelt : bytes ≡
      le16 (message_size m.payload) ++ (le16 m.id ++ (m.kind ∷ m.result ∷ pad1 ∷ pad2 ∷ m.payload))
  pub short : length m.payload ≤ longest_spelled_payload
  pub id_fits : m.id < 65536
  pub clear : m.kind < 128 → m.result ≡ 0

-- ---- the fields at the front of bytes

-- the size field
abbrev pub size_field : List ℕ → ℕ
size_field bytes = little_number 2 bytes

-- the identifier
abbrev pub id_field : List ℕ → ℕ
id_field bytes = little_number 2 (drop 2 bytes)

-- the type
abbrev pub kind_field : List ℕ → ℕ
kind_field bytes = slice_index bytes 4

-- the result
abbrev pub result_field : List ℕ → ℕ
result_field bytes = slice_index bytes 5

-- the message at the front
abbrev pub message_at : List ℕ → Message
message_at bytes = record {
  id = id_field bytes;
  kind = kind_field bytes;
  result = result_field bytes;
  payload = take (size_field bytes - header_size) (drop header_size bytes);
}

-- ---- one message

-- a request has a result that isn't 0
abbrev pub is_wrong_request : List ℕ → Bool
is_wrong_request bytes = nat_lt (kind_field bytes) 128 && not (result_field bytes == 0)

-- What decoding answers: the message at the front of the bytes and its size, or what is wrong.
abbrev pub decode_answer : List ℕ → Result (Message × ℕ) WireFault
decode_answer bytes =
    if nat_lt (length bytes) header_size then Err (wire.Short header_size)
    else if nat_lt (size_field bytes) header_size
    then Err (wire.SizeBelowEight (size_field bytes))
    else if nat_lt (length bytes) (size_field bytes) then Err (wire.Short (size_field bytes))
    else if is_wrong_request bytes then Err (wire.RequestResult (result_field bytes))
    else Ok (message_at bytes, size_field bytes)

-- a message that is the whole of so many bytes
abbrev pub alone : ℕ → Result (Message × ℕ) WireFault → Result Message RawFault
alone count (Err fault) = Err (raw.Wire fault)
alone count (Ok (m, size)) = if count == size then Ok m else Err (raw.Extra (count - size))

-- What raw bytes are: one whole message, or why not.
abbrev pub raw_message : List ℕ → Result Message RawFault
raw_message bytes = alone (length bytes) (decode_answer bytes)

-- ---- many messages

-- Bytes are short: fewer than eight, or fewer than their size field says.
abbrev pub IsShort : List ℕ → Type 0
IsShort bytes =
    (length bytes < header_size)
    ⊎ (header_size ≤ size_field bytes) × (length bytes < size_field bytes)

-- a whole request with a result that isn't 0
pub record BeginsWrongRequest (bytes : List ℕ) : Type 0 where
  pub sized : header_size ≤ size_field bytes
  pub there : size_field bytes ≤ length bytes
  pub request : kind_field bytes < 128
  pub result : result_field bytes ≢ 0

-- Bytes begin with a message that can't be: a size below eight, or a request with a result.
abbrev pub BeginsImpossible : List ℕ → Type 0
BeginsImpossible bytes =
    (header_size ≤ length bytes)
    × ((size_field bytes < header_size) ⊎ BeginsWrongRequest bytes)

-- What can be left of a stream: nothing, what is short, or what begins with what can't be.
abbrev pub IsRest : List ℕ → Type 0
IsRest bytes = (bytes ≡ []) ⊎ IsShort bytes ⊎ BeginsImpossible bytes

-- The only division of a stream: it is the messages' spellings in order, and then a rest.
abbrev pub IsStream : List ℕ → List Message → List ℕ → Type 0
IsStream bytes [] rest = (bytes ≡ rest) × IsRest rest
IsStream bytes (m ∷ ms) rest =
    (front : List ℕ) × (back : List ℕ) × (bytes ≡ front ++ back) × Spells front m
    × IsStream back ms rest
