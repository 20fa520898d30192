-- Operation messages (Greybus Specification, "Operation Messages"; in
-- Linux's greybus_protocols.h `gb_operation_msg_hdr`).
use Rattle.std.specs.Prelude.{ℕ, ◌+◌, List, ◌∷◌, ◌++◌, length}
use Rattle.gb_formats.specs.Bytes.{le16}

-- An operation message. Identifier 0 is that of a unidirectional request, which gets no response.
-- A type from 80 on is that of a response, whose low seven bits repeat the request's.
pub record Message : Type 0 where
  pub id : ℕ
  pub kind : ℕ
  pub result : ℕ
  pub payload : List ℕ

-- how many bytes a message with this payload has: a header of 8, and the payload
abbrev pub message_size : List ℕ → ℕ
message_size payload = 8 + length payload

-- The canonical spelling: size, identifier, type, result, two pads of 0, and the payload.
abbrev pub spelling : Message → List ℕ
spelling m =
    le16 (message_size m.payload) ++ (le16 m.id ++ (m.kind ∷ m.result ∷ 0 ∷ 0 ∷ m.payload))

-- the message of a request
abbrev pub request : ℕ → ℕ → List ℕ → Message
request id kind payload = record { id = id; kind = kind; result = 0; payload = payload }

-- the message of a response to a request of this type
abbrev pub response : ℕ → ℕ → ℕ → List ℕ → Message
response id kind result payload =
    record { id = id; kind = 128 + kind; result = result; payload = payload }
