-- Results of operations, and what a responder answers (Greybus Specification, "Operation Status
-- Values"; in Linux `gb_operation_result`).
use Rattle.std.specs.Prelude.{ℕ, true, false, List, []}
use Rattle.gb_base.specs.declared.served.OwnAsk.{OwnAsk}
use Rattle.gb_base.specs.declared.served.Served.{Served}
use Rattle.gb_formats.specs.Records.{PayloadFault}

-- the request was served
abbrev pub success : ℕ
success = 0x00

-- the responder has no request of this type
abbrev pub protocol_bad : ℕ
protocol_bad = 0x04

-- the answer would be too long
abbrev pub overflow : ℕ
overflow = 0x05

-- the payload, a value or the state doesn't fit
abbrev pub invalid : ℕ
invalid = 0x06

-- it can't be served now
abbrev pub retry : ℕ
retry = 0x07

-- what is asked for isn't there
abbrev pub nonexistent : ℕ
nonexistent = 0x08

-- the greatest payload of a message on a link
abbrev pub most_payload : ℕ
most_payload = 2040

-- an answer of success with this payload
abbrev pub answer_of : List ℕ → Served
answer_of payload = record { result = success; payload = payload; asks = [] }

-- an answer of this result, with no payload
abbrev pub refusal_of : ℕ → Served
refusal_of result = record { result = result; payload = []; asks = [] }

-- A responder answers an unknown type with PROTOCOL_BAD, a payload that doesn't match with INVALID.
abbrev pub fault_result : PayloadFault → ℕ
fault_result PayloadFault.UnknownKind = protocol_bad
fault_result (PayloadFault.Mismatch at) = invalid

-- What a device or a module does at a request: what it is after it, and the answer.
pub record Step (D : Type 0) : Type 0 where
  pub after : D
  pub served : Served

-- it stays, and answers this payload
abbrev pub tells : {D : Type 0} → D → List ℕ → Step D
tells stays payload = record { after = stays; served = answer_of payload }

-- it stays, and answers this result
abbrev pub refuses : {D : Type 0} → D → ℕ → Step D
refuses stays result = record { after = stays; served = refusal_of result }

-- What a stir from outside does to a device or a module: what it is after it, and the requests of
-- its own that it makes.
pub record Stirred (D : Type 0) : Type 0 where
  pub after : D
  pub asks : List OwnAsk

-- a request of the responder's own that gets no response
abbrev pub oneway_ask : ℕ → List ℕ → OwnAsk
oneway_ask kind payload = record { kind = kind; payload = payload; oneway = true }

-- a request of the responder's own that gets a response
abbrev pub own_ask : ℕ → List ℕ → OwnAsk
own_ask kind payload = record { kind = kind; payload = payload; oneway = false }
