-- Loopback: records, the device, and bridge lines.
use Rattle.std.proofs.Common.{◌≡◌, ℕ, false, true, List, [], ◌∷◌, ◌++◌, refl}
use Rattle.std.specs.Prelude.{Err, Ok, map, replicate}
use Rattle.gb_base.specs.declared.bridge.BridgeAsk.TheVariants as ask
use Rattle.gb_base.specs.declared.bridge.Reading.TheVariants as reading
use Rattle.gb_base.specs.declared.event.Kind.TheVariants as kind
use Rattle.gb_formats.specs.Bridges.{BridgeFault, bridge_answer, is_too_large, reading_of}
use Rattle.gb_formats.specs.LoopbackDevice.{loopback_step}
use Rattle.gb_formats.specs.LoopbackRecords.{LoopbackAsk, LoopbackReply, carried}
use Rattle.gb_formats.specs.LoopbackRecords.{loopback_ask_kind, loopback_ask_payload}
use Rattle.gb_formats.specs.LoopbackRecords.{loopback_reply_kind, loopback_reply_payload}
use Rattle.gb_formats.specs.LoopbackRecords.{read_loopback_ask, read_loopback_reply}
use Rattle.gb_formats.specs.Records.{PayloadFault}
use Rattle.gb_formats.specs.Results.{answer_of, refusal_of}
use Rattle.gb_formats.proofs.VectorsDevices.{answers_of, connected}

-- two bytes behind their length, with numbers where the field is reserved
abbrev pub two_bytes : List ℕ
two_bytes = 2 ∷ 0 ∷ 0 ∷ 0 ∷ 1 ∷ 2 ∷ 3 ∷ 4 ∷ 5 ∷ 0 ∷ 0 ∷ 0 ∷ 0xaa ∷ 0xbb ∷ []

-- types, payloads and records of the Loopback protocol
abbrev pub loopback_ask_rows : List (ℕ × List ℕ × LoopbackAsk)
loopback_ask_rows =
    (0x02, [], LoopbackAsk.Ping)
    ∷ (0x03, two_bytes, LoopbackAsk.Transfer 0x04030201 5 (0xaa ∷ 0xbb ∷ []))
    ∷ (0x03, replicate 12 0, LoopbackAsk.Transfer 0 0 [])
    ∷ (0x04, two_bytes, LoopbackAsk.Sink 0x04030201 5 (0xaa ∷ 0xbb ∷ []))
    ∷ []

pub loopback_ask_rows-read : map (λ row. read_loopback_ask row.0 row.1) loopback_ask_rows
    ≡ map (λ row. Ok row.2) loopback_ask_rows
loopback_ask_rows-read = refl

pub loopback_ask_rows-kind : map (λ row. loopback_ask_kind row.2) loopback_ask_rows
    ≡ map (λ row. row.0) loopback_ask_rows
loopback_ask_rows-kind = refl

pub loopback_ask_rows-payload : map (λ row. loopback_ask_payload row.2) loopback_ask_rows
    ≡ map (λ row. row.1) loopback_ask_rows
loopback_ask_rows-payload = refl

-- payloads that are no record of their type, and the place where they part
abbrev pub loopback_ask_faults : List (ℕ × List ℕ × PayloadFault)
loopback_ask_faults =
    (0x01, [], PayloadFault.UnknownKind)
    ∷ (0x05, [], PayloadFault.UnknownKind)
    ∷ (0x02, 0 ∷ [], PayloadFault.Mismatch 1)
    ∷ (0x03, [], PayloadFault.Mismatch 0)
    ∷ (0x03, 0 ∷ 0 ∷ 0 ∷ [], PayloadFault.Mismatch 3)
    ∷ (0x03, 2 ∷ replicate 12 0, PayloadFault.Mismatch 13)
    ∷ (0x04, 2 ∷ replicate 15 0, PayloadFault.Mismatch 15)
    ∷ (0x04, 255 ∷ 255 ∷ 255 ∷ 255 ∷ replicate 10 0, PayloadFault.Mismatch 14)
    ∷ []

pub loopback_ask_faults-read : map (λ row. read_loopback_ask row.0 row.1) loopback_ask_faults
    ≡ map (λ row. Err row.2) loopback_ask_faults
loopback_ask_faults-read = refl

-- the same of responses
abbrev pub loopback_reply_rows : List (ℕ × List ℕ × LoopbackReply)
loopback_reply_rows =
    (0x02, [], LoopbackReply.Ping)
    ∷ (0x03, two_bytes, LoopbackReply.Transfer 0x04030201 5 (0xaa ∷ 0xbb ∷ []))
    ∷ (0x04, [], LoopbackReply.Sink)
    ∷ []

pub loopback_reply_rows-read : map (λ row. read_loopback_reply row.0 row.1) loopback_reply_rows
    ≡ map (λ row. Ok row.2) loopback_reply_rows
loopback_reply_rows-read = refl

pub loopback_reply_rows-kind : map (λ row. loopback_reply_kind row.2) loopback_reply_rows
    ≡ map (λ row. row.0) loopback_reply_rows
loopback_reply_rows-kind = refl

pub loopback_reply_rows-payload : map (λ row. loopback_reply_payload row.2) loopback_reply_rows
    ≡ map (λ row. row.1) loopback_reply_rows
loopback_reply_rows-payload = refl

-- ---- the device

-- what is reserved comes back as it was; a payload that doesn't match, and an unknown type
pub loopback-answers : answers_of (connected kind.Loopback)
    ((1, 0x02, []) ∷ (1, 0x03, two_bytes) ∷ (1, 0x04, two_bytes)
    ∷ (1, 0x02, 0 ∷ []) ∷ (1, 0x03, 1 ∷ replicate 11 0) ∷ (1, 0x05, []) ∷ [])
    ≡ answer_of [] ∷ answer_of two_bytes ∷ answer_of []
    ∷ refusal_of 0x06 ∷ refusal_of 0x06 ∷ refusal_of 0x04 ∷ []
loopback-answers = refl

-- the longest transfer comes back
pub longest-transfer : loopback_step 0x03 (carried 0 0 (replicate 2028 7))
    ≡ answer_of (carried 0 0 (replicate 2028 7))
longest-transfer = refl

-- ---- bridge lines

pub bridge_answer-loopback : map (bridge_answer 0x11)
    (ask.LoopPing ∷ ask.LoopBytes 0x03 (10 ∷ 11 ∷ []) ∷ ask.LoopBytes 0x04 [] ∷ ask.SpiConfig ∷ [])
    ≡ Ok (2, []) ∷ Ok (3, 2 ∷ replicate 11 0 ++ 10 ∷ 11 ∷ []) ∷ Ok (4, replicate 12 0)
    ∷ Err BridgeFault.Unsupported ∷ []
bridge_answer-loopback = refl

-- 2,028 bytes are the most
pub too_large-loopback : map is_too_large
    (ask.LoopBytes 0x03 (replicate 2028 0) ∷ ask.LoopBytes 0x03 (replicate 2029 0)
    ∷ ask.LoopBytes 0x04 (replicate 2028 0) ∷ ask.LoopBytes 0x04 (replicate 2029 0) ∷ [])
    ≡ false ∷ true ∷ false ∷ true ∷ []
too_large-loopback = refl

-- nothing is read from what a loopback answers
pub readings-loopback : map (λ kind. reading_of 0x11 kind two_bytes) (0x02 ∷ 0x03 ∷ 0x04 ∷ [])
    ≡ reading.Nothing ∷ reading.Nothing ∷ reading.Nothing ∷ []
readings-loopback = refl
