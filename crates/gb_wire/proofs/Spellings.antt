-- Spellings of messages, and what decoding answers.
use Rattle.std.proofs.Common.{◌≡◌, ℕ, ◌+◌, ◌-◌, ◌<◌, ◌≤◌, List, [], ◌∷◌, ◌++◌, length, take, drop}
use Rattle.std.proofs.Common.{slice_index, Result, Ok, Err, refl, sym, ap, subst, ◌∙◌, arith}
use Rattle.std.proofs.Common.{take-append-drop, length-take-le, length-append, length-drop}
use Rattle.std.proofs.lemmas.Bool.Decides.{nat_tests}
use Rattle.std.proofs.lemmas.List.{take_at, drop_at, drop_more}
use Rattle.std.proofs.Math.Seq.{take-add}
use Rattle.gb_base.proofs.LittleEndian.{little_bytes-number2}
use Rattle.byteorder.specs.Endian.{little_number}
use Rattle.gb_base.specs.Bytes.{AreBytes}
use Rattle.gb_base.specs.declared.reasons.WireFault.{WireFault}
use Rattle.gb_formats.specs.Bytes.{le16}
use Rattle.gb_formats.specs.Message.{Message, message_size, spelling}
use Rattle.gb_formats.specs.Wire.{Spells, header_size, size_field, kind_field, result_field}
use Rattle.gb_formats.specs.Wire.{message_at, decode_answer}
use Rattle.gb_wire.specs.Streams.{IsSpelled}

-- a spelling is as long as its message's size says
pub length-spelling : (bytes : List ℕ) (m : Message)
    → Spells bytes m → length bytes ≡ message_size m.payload
length-spelling bytes m s = rw s.spelt (omega arith)

-- two bytes of a number below 65536 are that number, whatever follows
number-le16 : (n : ℕ) (rest : List ℕ) → n < 65536 → little_number 2 (le16 n ++ rest) ≡ n
number-le16 n rest h = omega arith

-- a whole message whose fields fit together is decoded
decode-fields : (bytes : List ℕ) → header_size ≤ size_field bytes → size_field bytes ≤ length bytes
    → (kind_field bytes < 128 → result_field bytes ≡ 0)
    → decode_answer bytes ≡ Ok (message_at bytes, size_field bytes)
decode-fields bytes h l c = grind (arith, nat_tests)

-- the bytes of a whole message, one by one, are decoded to it, whatever follows
decode-cells : (a b c d kind result p q : ℕ) (payload rest : List ℕ)
    → little_number 2 (a ∷ b ∷ []) ≡ message_size payload → (kind < 128 → result ≡ 0)
    → decode_answer (a ∷ b ∷ c ∷ d ∷ kind ∷ result ∷ p ∷ q ∷ (payload ++ rest))
    ≡ Ok (
      record { id = little_number 2 (c ∷ d ∷ []); kind = kind; result = result; payload = payload },
      message_size payload,
    )
decode-cells a b c d kind result p q payload rest size clear =
    decode-fields cells (omega (arith, size)) (omega (arith, size, length-append payload rest))
    clear
    ∙ ap (λ (x : List ℕ × ℕ). Ok (
      record { id = little_number 2 (c ∷ d ∷ []); kind = kind; result = result; payload = x.0 },
      x.1,
    )) same
  where
    cells : List ℕ
    cells = a ∷ b ∷ c ∷ d ∷ kind ∷ result ∷ p ∷ q ∷ (payload ++ rest)

    same : ◌≡◌ {A = List ℕ × ℕ} (
      take (little_number 2 (a ∷ b ∷ []) - header_size) (payload ++ rest),
      little_number 2 (a ∷ b ∷ []),
    ) (payload, message_size payload)
    same = rw (size, take_at payload rest (message_size payload - header_size) (omega arith)) refl

-- what begins with a spelling is decoded to its message, whatever follows
pub decode-spelling : (bytes rest : List ℕ) (m : Message)
    → Spells bytes m → decode_answer (bytes ++ rest) ≡ Ok (m, message_size m.payload)
decode-spelling bytes rest m s =
    ap (λ (b : List ℕ). decode_answer (b ++ rest)) s.spelt
    ∙ (decode-cells _ _ _ _ m.kind m.result s.pad1 s.pad2 m.payload rest
    (number-le16 (message_size m.payload) [] (omega (arith, s.short))) s.clear
    ∙ ap (λ (id : ℕ). Ok (
      record { id = id; kind = m.kind; result = m.result; payload = m.payload },
      message_size m.payload,
    )) (number-le16 m.id [] s.id_fits))

-- what is decoded is whole, and is the message at the front
pub decoded-whole : (bytes : List ℕ) (m : Message) (n : ℕ) → decode_answer bytes ≡ Ok (m, n)
    → (header_size ≤ size_field bytes)
    × (size_field bytes ≤ length bytes)
    × (kind_field bytes < 128 → result_field bytes ≡ 0)
    × (message_at bytes ≡ m)
    × (size_field bytes ≡ n)
decoded-whole bytes m n h = grind (arith, nat_tests)

-- bytes of which eight are there, one by one
cells : (bytes : List ℕ) → header_size ≤ length bytes
    → bytes ≡ slice_index bytes 0 ∷ slice_index bytes 1 ∷ slice_index bytes 2 ∷ slice_index bytes 3
    ∷ slice_index bytes 4 ∷ slice_index bytes 5 ∷ slice_index bytes 6 ∷ slice_index bytes 7
    ∷ drop header_size bytes
cells bytes l =
    next 0 (omega arith)
    (next 1 (omega arith)
    (next 2 (omega arith)
    (next 3 (omega arith)
    (next 4 (omega arith)
    (next 5 (omega arith) (next 6 (omega arith) (next 7 (omega arith) refl)))))))
  where
    next : (i : ℕ) {rest : List ℕ}
        → i < length bytes → drop (i + 1) bytes ≡ rest → drop i bytes ≡ slice_index bytes i ∷ rest
    next i {rest} h e = drop_more bytes i 0 h ∙ ap (λ (xs : List ℕ). slice_index bytes i ∷ xs) e

-- the first bytes of a whole message spell it
spells-cells : (a b c d kind result p q : ℕ) (rest : List ℕ) → a < 256 → b < 256 → c < 256 → d < 256
    → header_size ≤ little_number 2 (a ∷ b ∷ [])
    → little_number 2 (a ∷ b ∷ []) ≤ header_size + length rest → (kind < 128 → result ≡ 0)
    → (let bytes = a ∷ b ∷ c ∷ d ∷ kind ∷ result ∷ p ∷ q ∷ rest in
    Spells (take (size_field bytes) bytes) (message_at bytes))
spells-cells a b c d kind result p q rest a' b' c' d' sized there clear = record {
  pad1 = p;
  pad2 = q;
  spelt =
      parted
      ∙ sym (ap (λ (xs : List ℕ). xs ++ (le16 id ++ more))
      (ap le16 count ∙ little_bytes-number2 a b a' b')
      ∙ ap (λ (xs : List ℕ). a ∷ b ∷ (xs ++ more)) (little_bytes-number2 c d c' d'));
  short = omega (arith, count);
  id_fits = omega arith;
  clear = clear;
}
  where
    size : ℕ
    size = little_number 2 (a ∷ b ∷ [])

    id : ℕ
    id = little_number 2 (c ∷ d ∷ [])

    payload : List ℕ
    payload = take (size - header_size) rest

    more : List ℕ
    more = kind ∷ result ∷ p ∷ q ∷ payload

    count : message_size payload ≡ size
    count = omega (arith, length-take-le (size - header_size) rest (omega arith))

    parted : take size (a ∷ b ∷ c ∷ d ∷ kind ∷ result ∷ p ∷ q ∷ rest)
        ≡ a ∷ b ∷ c ∷ d ∷ kind ∷ result ∷ p ∷ q ∷ payload
    parted =
        let whole : header_size + (size - header_size) ≡ size = omega arith in
        ap (λ (n : ℕ). take n (a ∷ b ∷ c ∷ d ∷ kind ∷ result ∷ p ∷ q ∷ rest)) (sym whole)
        ∙ take-add header_size (size - header_size) (a ∷ b ∷ c ∷ d ∷ kind ∷ result ∷ p ∷ q ∷ rest)

-- what is decoded is spelled by the first bytes
pub decoded-spells : (bytes : List ℕ) (m : Message) (n : ℕ) → AreBytes bytes
    → decode_answer bytes ≡ Ok (m, n) → (n ≤ length bytes) × Spells (take n bytes) m
decoded-spells bytes m n fits h =
    let d = decoded-whole bytes m n h in
    let l : header_size ≤ length bytes = omega (arith, d.0, d.1) in
    let all = spells-cells (slice_index bytes 0) (slice_index bytes 1) (slice_index bytes 2)
    (slice_index bytes 3) (slice_index bytes 4) (slice_index bytes 5) (slice_index bytes 6)
    (slice_index bytes 7) (drop header_size bytes) (fits 0) (fits 1) (fits 2) (fits 3) d.0
    (omega (arith, d.1, length-drop header_size bytes)) d.2 in
    let fields : Spells (take (size_field bytes) bytes) (message_at bytes) =
    subst (λ (xs : List ℕ). Spells (take (size_field xs) xs) (message_at xs)) (sym (cells bytes l))
    all in (
      omega (arith, d.1, d.4),
      subst (λ (k : ℕ). Spells (take k bytes) m) d.4
          (subst (λ (x : Message). Spells (take (size_field bytes) bytes) x) d.3 fields),
    )

-- what the first bytes spell is decoded
pub spelled-decodes : (bytes : List ℕ) (m : Message) (n : ℕ)
    → n ≤ length bytes → Spells (take n bytes) m → decode_answer bytes ≡ Ok (m, n)
spelled-decodes bytes m n l s =
    let size : message_size m.payload ≡ n =
    omega (arith, length-spelling (take n bytes) m s, length-take-le n bytes l) in
    ap decode_answer (sym (take-append-drop n bytes))
    ∙ (decode-spelling (take n bytes) (drop n bytes) m s ∙ ap (λ (k : ℕ). Ok (m, k)) size)

-- the message of an answer, or another
abbrev message_in : Message → Result (Message × ℕ) WireFault → Message
message_in other (Ok found) = found.0
message_in other (Err fault) = other

-- spellings at the front of the same bytes are the same, of one message
pub spellings-same : (a b x y : List ℕ) (m n : Message)
    → Spells a m → Spells b n → a ++ x ≡ b ++ y → (a ≡ b) × (x ≡ y) × (m ≡ n)
spellings-same a b x y m n s t e =
    let both : ◌≡◌ {A = Result (Message × ℕ) WireFault} (Ok (m, message_size m.payload))
    (Ok (n, message_size n.payload)) =
    sym (decode-spelling a x m s) ∙ (ap decode_answer e ∙ decode-spelling b y n t) in
    let one : m ≡ n = ap (message_in m) both in
    let long : length a ≡ length b =
    length-spelling a m s
    ∙ (ap (λ (k : Message). message_size k.payload) one ∙ sym (length-spelling b n t)) in (
      sym (take_at a x (length a) refl)
          ∙ (ap (take (length a)) e ∙ take_at b y (length a) (sym long)),
      sym (drop_at a x (length a) refl)
          ∙ (ap (drop (length a)) e ∙ drop_at b y (length a) (sym long)),
      one,
    )

-- the canonical spelling is one
pub spelling-spells : (m : Message) → IsSpelled m → Spells (spelling m) m
spelling-spells m h = record {
  pad1 = 0;
  pad2 = 0;
  spelt = refl;
  short = h.short;
  id_fits = h.id_fits;
  clear = h.clear;
}
