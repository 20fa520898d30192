-- Messages: what decoding answers, and how a stream is divided.
use Rattle.std.proofs.Common.{◌≡◌, [], ◌∷◌, refl, inl, inr, arith}
use Rattle.std.specs.Prelude.{Ok, Err, ◌++◌}
use Rattle.gb_base.specs.declared.reasons.RawFault.TheVariants as raw
use Rattle.gb_base.specs.declared.reasons.WireFault.TheVariants as wire
use Rattle.gb_formats.specs.Message.{Message, request, response, spelling}
use Rattle.gb_formats.specs.Wire.{Spells, IsStream, decode_answer, raw_message}
use Rattle.gb_formats.proofs.Samples.{ping_bytes}

-- the ping request with identifier 1
abbrev pub ping_message : Message
ping_message = request 1 0x13 []

pub ping-spelling : spelling ping_message ≡ ping_bytes
ping-spelling = refl

pub reply-spelling : spelling (response 1 0x21 0 (0 ∷ []))
    ≡ 9 ∷ 0 ∷ 1 ∷ 0 ∷ 0xa1 ∷ 0 ∷ 0 ∷ 0 ∷ 0 ∷ []
reply-spelling = refl

-- pads have any value
pub ping-spells : Spells (8 ∷ 0 ∷ 1 ∷ 0 ∷ 0x13 ∷ 0 ∷ 7 ∷ 9 ∷ []) ping_message
ping-spells = record {
  pad1 = 7;
  pad2 = 9;
  spelt = refl;
  short = omega arith;
  id_fits = omega arith;
  clear = λ h. refl;
}

-- the message and 8; too short; a size below eight; a size of nine; a result in a request
pub decode-whole : decode_answer (ping_bytes ++ 0xff ∷ []) ≡ Ok (ping_message, 8)
decode-whole = refl

pub decode-short : decode_answer (8 ∷ 0 ∷ 1 ∷ 0 ∷ 0x13 ∷ 0 ∷ 0 ∷ []) ≡ Err (wire.Short 8)
decode-short = refl

pub decode-below : decode_answer (7 ∷ 0 ∷ 1 ∷ 0 ∷ 0x13 ∷ 0 ∷ 0 ∷ 0 ∷ [])
    ≡ Err (wire.SizeBelowEight 7)
decode-below = refl

pub decode-nine : decode_answer (9 ∷ 0 ∷ 1 ∷ 0 ∷ 0x13 ∷ 0 ∷ 0 ∷ 0 ∷ []) ≡ Err (wire.Short 9)
decode-nine = refl

pub decode-result : decode_answer (8 ∷ 0 ∷ 1 ∷ 0 ∷ 0x13 ∷ 6 ∷ 0 ∷ 0 ∷ [])
    ≡ Err (wire.RequestResult 6)
decode-result = refl

-- a response has any result
pub decode-response : decode_answer (8 ∷ 0 ∷ 1 ∷ 0 ∷ 0x83 ∷ 6 ∷ 0 ∷ 0 ∷ [])
    ≡ Ok (response 1 3 6 [], 8)
decode-response = refl

-- the size field comes before the result
pub decode-order : decode_answer (9 ∷ 0 ∷ 1 ∷ 0 ∷ 0x13 ∷ 6 ∷ 0 ∷ 0 ∷ []) ≡ Err (wire.Short 9)
decode-order = refl

-- ---- raw bytes

pub raw-short : raw_message (8 ∷ 0 ∷ 1 ∷ []) ≡ Err (raw.Wire (wire.Short 8))
raw-short = refl

pub raw-extra : raw_message (ping_bytes ++ 1 ∷ 2 ∷ []) ≡ Err (raw.Extra 2)
raw-extra = refl

pub raw-whole : raw_message ping_bytes ≡ Ok ping_message
raw-whole = refl

-- ---- streams

-- two messages, and then a message that is short
pub stream-short : IsStream (ping_bytes ++ (ping_bytes ++ 9 ∷ 0 ∷ 1 ∷ 0 ∷ 0x21 ∷ 0 ∷ 0 ∷ 0 ∷ []))
    (ping_message ∷ ping_message ∷ []) (9 ∷ 0 ∷ 1 ∷ 0 ∷ 0x21 ∷ 0 ∷ 0 ∷ 0 ∷ [])
stream-short = (
  ping_bytes,
  ping_bytes ++ 9 ∷ 0 ∷ 1 ∷ 0 ∷ 0x21 ∷ 0 ∷ 0 ∷ 0 ∷ [],
  refl,
  ping_plain,
  (
    ping_bytes,
    9 ∷ 0 ∷ 1 ∷ 0 ∷ 0x21 ∷ 0 ∷ 0 ∷ 0 ∷ [],
    refl,
    ping_plain,
    (refl, inr (inl (inr (omega arith, omega arith)))),
  ),
)
  where
    ping_plain : Spells ping_bytes ping_message
    ping_plain = record {
      pad1 = 0;
      pad2 = 0;
      spelt = refl;
      short = omega arith;
      id_fits = omega arith;
      clear = λ h. refl;
    }

-- nothing is left
pub stream-empty : IsStream [] [] []
stream-empty = (refl, inl refl)

-- a size below eight can't be
pub stream-impossible : IsStream (7 ∷ 0 ∷ 1 ∷ 0 ∷ 0x13 ∷ 0 ∷ 0 ∷ 0 ∷ []) []
    (7 ∷ 0 ∷ 1 ∷ 0 ∷ 0x13 ∷ 0 ∷ 0 ∷ 0 ∷ [])
stream-impossible = (refl, inr (inr (omega arith, inl (omega arith))))
