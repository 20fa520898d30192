-- What an answer of decoding says of the bytes.
use Rattle.std.proofs.Common.{◌≡◌, ℕ, ◌≤◌, List, length, take, Result, Ok, Err, sym, ap, ◌∙◌, IfOk}
use Rattle.std.proofs.Common.{IsOkAnd}
use Rattle.gb_base.specs.Bytes.{AreBytes}
use Rattle.gb_base.specs.declared.reasons.WireFault.{WireFault}
use Rattle.gb_formats.specs.Message as formats
use Rattle.gb_formats.specs.Wire.{Spells, decode_answer}
use Rattle.gb_wire.specs.Decoding.{answer_of}
use Rattle.gb_wire.specs.MessageOf.{message_of}
use Rattle.gb_wire.specs.declared.message.Message.{Message}
use Rattle.gb_wire.proofs.Spellings.{decoded-spells, spelled-decodes}

-- what is answered is spelled by the first bytes
pub answer-spells : (r : Result (Message × ℕ) WireFault) (bytes : List ℕ) → AreBytes bytes
    → answer_of r ≡ decode_answer bytes
    → IfOk r (λ found. (found.1 ≤ length bytes) × Spells (take found.1 bytes) (message_of found.0))
answer-spells (Ok found) bytes fits e =
    decoded-spells bytes (message_of found.0) found.1 fits (sym e)
answer-spells (Err fault) bytes fits e = tt

-- an answer that is this message and size
same-answer : (r : Result (Message × ℕ) WireFault) (m : formats.Message) (n : ℕ)
    → answer_of r ≡ Ok (m, n) → IsOkAnd r (λ found. (message_of found.0 ≡ m) × (found.1 ≡ n))
same-answer (Ok found) m n e = (ap first e, ap second e)
  where
    first : Result (formats.Message × ℕ) WireFault → formats.Message
    first (Ok x) = x.0
    first (Err fault) = m

    second : Result (formats.Message × ℕ) WireFault → ℕ
    second (Ok x) = x.1
    second (Err fault) = n
same-answer (Err fault) m n e = cc

-- what the first bytes spell is answered
pub answer-only : (r : Result (Message × ℕ) WireFault) (bytes : List ℕ)
    → answer_of r ≡ decode_answer bytes → (m : formats.Message) (n : ℕ) → n ≤ length bytes
    → Spells (take n bytes) m → IsOkAnd r (λ found. (message_of found.0 ≡ m) × (found.1 ≡ n))
answer-only r bytes e m n l s = same-answer r m n (e ∙ spelled-decodes bytes m n l s)
