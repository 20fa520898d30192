-- Divisions of streams.
use Rattle.std.proofs.Common.{◌≡◌, ◌≢◌, ℕ, ◌+◌, ◌<◌, ◌≤◌, ◌⊎◌, List, [], ◌∷◌, ◌++◌, length, take}
use Rattle.std.proofs.Common.{drop, slice_index, take-append-drop, Result, Ok, Err, refl, sym, ap}
use Rattle.std.proofs.Common.{subst, ◌∙◌, inl, inr, arith, append_assoc, length-append, length-drop}
use Rattle.std.proofs.Common.{length-take-le, zero, suc}
use Rattle.std.proofs.lemmas.Bool.Decides.{nat_tests}
use Rattle.std.proofs.lemmas.List.{get_or_append_left, get_or-drop}
use Rattle.gb_base.specs.Bytes.{AreBytes}
use Rattle.gb_base.specs.declared.reasons.WireFault.{WireFault}
use Rattle.gb_base.specs.declared.reasons.WireFault.TheVariants as wire
use Rattle.gb_formats.specs.Message.{Message, message_size}
use Rattle.gb_formats.specs.Wire.{Spells, header_size, size_field, kind_field, result_field}
use Rattle.gb_formats.specs.Wire.{IsShort, BeginsImpossible, IsRest, IsStream, decode_answer}
use Rattle.gb_wire.specs.Streams.{BeginsWith}
use Rattle.gb_wire.proofs.Spellings.{length-spelling, decode-spelling, decoded-whole}
use Rattle.gb_wire.proofs.Spellings.{decoded-spells, spellings-same}

-- bytes at which decoding needs more are short
pub short-is_short : (bytes : List ℕ) (need : ℕ)
    → decode_answer bytes ≡ Err (wire.Short need) → IsShort bytes
short-is_short bytes need h = grind (arith, nat_tests)

-- bytes at which decoding finds another fault begin with it
pub below-begins : (bytes : List ℕ) (size : ℕ)
    → decode_answer bytes ≡ Err (wire.SizeBelowEight size)
    → BeginsWith (wire.SizeBelowEight size) bytes
below-begins bytes size h = grind (arith, nat_tests)

pub result-begins : (bytes : List ℕ) (result : ℕ)
    → decode_answer bytes ≡ Err (wire.RequestResult result)
    → BeginsWith (wire.RequestResult result) bytes
result-begins bytes result h = grind (arith, nat_tests)

-- what begins with a fault is answered with it
pub begins-faults : (fault : WireFault) (bytes : List ℕ)
    → BeginsWith fault bytes → decode_answer bytes ≡ Err fault
begins-faults (wire.Short need) bytes b = absurd b
begins-faults (wire.SizeBelowEight size) bytes b = below bytes size b.0 b.1 b.2
  where
    below : (xs : List ℕ) (n : ℕ) → header_size ≤ length xs → size_field xs < header_size
        → n ≡ size_field xs → decode_answer xs ≡ Err (wire.SizeBelowEight n)
    below xs n l h e = grind (arith, nat_tests)
begins-faults (wire.RequestResult result) bytes b =
    wrong bytes result b.0 b.1.sized b.1.there b.1.request b.1.result b.2
  where
    wrong : (xs : List ℕ) (n : ℕ) → header_size ≤ length xs → header_size ≤ size_field xs
        → size_field xs ≤ length xs → kind_field xs < 128 → result_field xs ≢ 0
        → n ≡ result_field xs → decode_answer xs ≡ Err (wire.RequestResult n)
    wrong xs n l h t k r e = grind (arith, nat_tests)

-- what begins with a fault is what can be left of a stream
pub begins-impossible : (fault : WireFault) (bytes : List ℕ)
    → BeginsWith fault bytes → BeginsImpossible bytes
begins-impossible (wire.Short need) bytes b = absurd b
begins-impossible (wire.SizeBelowEight size) bytes b = (b.0, inl b.1)
begins-impossible (wire.RequestResult result) bytes b = (b.0, inr b.1)

-- a byte of the header, whatever follows
field : (bytes more : List ℕ) → header_size ≤ length bytes → (i : ℕ) → i < header_size
    → slice_index (bytes ++ more) i ≡ slice_index bytes i
field bytes more l i h = get_or_append_left bytes more 0 i (omega arith)

-- the fault stays, whatever follows
pub begins-append : (fault : WireFault) (bytes more : List ℕ)
    → BeginsWith fault bytes → BeginsWith fault (bytes ++ more)
begins-append (wire.Short need) bytes more b = b
begins-append (wire.SizeBelowEight size) bytes more b = (
  omega (arith, b.0, length-append bytes more),
  omega (
    arith,
    b.1,
    field bytes more b.0 0 (omega arith),
    field bytes more b.0 1 (omega arith),
  ),
  omega (
    arith,
    b.2,
    field bytes more b.0 0 (omega arith),
    field bytes more b.0 1 (omega arith),
  ),
)
begins-append (wire.RequestResult result) bytes more b = (
  omega (arith, b.0, length-append bytes more),
  record {
    sized =
        omega (
          arith,
          b.1.sized,
          field bytes more b.0 0 (omega arith),
          field bytes more b.0 1 (omega arith),
        );
    there =
        omega (
          arith,
          b.1.there,
          length-append bytes more,
          field bytes more b.0 0 (omega arith),
          field bytes more b.0 1 (omega arith),
        );
    request = omega (arith, b.1.request, field bytes more b.0 4 (omega arith));
    result = λ e. b.1.result (sym (field bytes more b.0 5 (omega arith)) ∙ e);
  },
  b.2 ∙ sym (field bytes more b.0 5 (omega arith)),
)

-- ---- streams

-- a message in front of a stream
pub stream-cons : (bytes : List ℕ) (n : ℕ) (m : Message) (ms : List Message) (rest : List ℕ)
    → Spells (take n bytes) m → IsStream (drop n bytes) ms rest → IsStream bytes (m ∷ ms) rest
stream-cons bytes n m ms rest s later =
    (take n bytes, drop n bytes, sym (take-append-drop n bytes), s, later)

-- a stream that goes on is divided as before, and then its rest with what comes
pub stream-join : (ms ns : List Message) (bytes rest more end : List ℕ) → IsStream bytes ms rest
    → IsStream (rest ++ more) ns end → IsStream (bytes ++ more) (ms ++ ns) end
stream-join [] ns bytes rest more end h later =
    subst (λ (xs : List ℕ). IsStream (xs ++ more) ns end) (sym h.0) later
stream-join (m ∷ ms) ns bytes rest more end h later = (
  h.0,
  h.1 ++ more,
  ap (λ (xs : List ℕ). xs ++ more) h.2 ∙ append_assoc h.0 h.1 more,
  h.3,
  stream-join ms ns h.1 rest more end h.4 later,
)

-- behind the same messages stands the rest with what came
pub stream-strip : (ms : List Message) (bytes rest more end : List ℕ)
    → IsStream bytes ms rest → IsStream (bytes ++ more) ms end → rest ++ more ≡ end
stream-strip [] bytes rest more end h later = ap (λ (xs : List ℕ). xs ++ more) (sym h.0) ∙ later.0
stream-strip (m ∷ ms) bytes rest more end h later =
    let same = spellings-same h.0 later.0 (h.1 ++ more) later.1 m m h.3 later.3
    (sym (append_assoc h.0 h.1 more) ∙ (ap (λ (xs : List ℕ). xs ++ more) (sym h.2) ∙ later.2)) in
    stream-strip ms h.1 rest more end h.4
    (subst (λ (xs : List ℕ). IsStream xs ms end) (sym same.1) later.4)

-- a rest begins with no message
rest-no_message : (rest front back : List ℕ) (m : Message)
    → IsRest rest → Spells front m → rest ≡ front ++ back → ⊥
rest-no_message rest front back m r s e =
    let d = decoded-whole rest m (message_size m.payload)
    (ap decode_answer e ∙ decode-spelling front back m s) in
    elim r [
      | inl none ↦ omega (arith, ap length none, d.0, d.1)
      | inr left ↦ elim left [
        | inl short ↦
            elim short [ inl h ↦ omega (arith, h, d.0, d.1) | inr h ↦ omega (arith, h.1, d.1) ]
        | inr never ↦
            elim never.1 [ inl h ↦ omega (arith, h, d.0) | inr h ↦ h.result (d.2 h.request) ]
      ]
    ]

cons-same : (m n : Message) (ms ns : List Message) → m ≡ n → ms ≡ ns → m ∷ ms ≡ n ∷ ns
cons-same m n ms ns h k = rw (h, k) refl

-- a stream has one division
pub stream-only : (ms ns : List Message) (bytes rest end : List ℕ)
    → IsStream bytes ms rest → IsStream bytes ns end → (ms ≡ ns) × (rest ≡ end)
stream-only [] [] bytes rest end h k = (refl, sym h.0 ∙ k.0)
stream-only [] (n ∷ ns) bytes rest end h k =
    absurd (rest-no_message rest k.0 k.1 n h.1 k.3 (sym h.0 ∙ k.2))
stream-only (m ∷ ms) [] bytes rest end h k =
    absurd (rest-no_message end h.0 h.1 m k.1 h.3 (sym k.0 ∙ h.2))
stream-only (m ∷ ms) (n ∷ ns) bytes rest end h k =
    let same = spellings-same h.0 k.0 h.1 k.1 m n h.3 k.3 (sym h.2 ∙ k.2) in
    let later =
    stream-only ms ns k.1 rest end (subst (λ (xs : List ℕ). IsStream xs ms rest) same.1 h.4) k.4 in
    (cons-same m n ms ns same.2 later.0, later.1)

-- what decoding answers is a message or a fault
answered : (r : Result (Message × ℕ) WireFault)
    → ((m : Message) × ((n : ℕ) × (r ≡ Ok (m, n)))) ⊎ ((fault : WireFault) × (r ≡ Err fault))
answered (Ok found) = inl (found.0, (found.1, refl))
answered (Err fault) = inr (fault, refl)

-- where decoding finds a fault, no message begins
pub fault-rest : (fault : WireFault) (bytes : List ℕ)
    → decode_answer bytes ≡ Err fault → IsRest bytes
fault-rest (wire.Short need) bytes h = inr (inl (short-is_short bytes need h))
fault-rest (wire.SizeBelowEight size) bytes h =
    inr (inr (begins-impossible (wire.SizeBelowEight size) bytes (below-begins bytes size h)))
fault-rest (wire.RequestResult result) bytes h =
    inr (inr (begins-impossible (wire.RequestResult result) bytes (result-begins bytes result h)))

-- so many bytes have a division
divided-within : (count : ℕ) (bytes : List ℕ) → length bytes ≤ count → AreBytes bytes
    → (ms : List Message) × ((rest : List ℕ) × IsStream bytes ms rest)
divided-within zero [] l fits = ([], ([], (refl, inl refl)))
divided-within zero (b ∷ bytes) l fits = absurd (omega arith)
divided-within (suc count) bytes l fits =
    elim (answered (decode_answer bytes)) [
      | inl found ↦ (
          let spelled = decoded-spells bytes found.0 found.1.0 fits found.1.1 in
          let long = length-spelling (take found.1.0 bytes) found.0 spelled.1 in
          let behind = divided-within count (drop found.1.0 bytes)
          (omega (
            arith,
            length-drop found.1.0 bytes,
            long,
            length-take-le found.1.0 bytes spelled.0,
          ))
          (λ k. rw (get_or-drop found.1.0 bytes k 0) (fits (found.1.0 + k))) in (
            found.0 ∷ behind.0,
            (
              behind.1.0,
              stream-cons bytes found.1.0 found.0 behind.0 behind.1.0 spelled.1 behind.1.1,
            ),
          ))
      | inr fault ↦ ([], (bytes, (refl, fault-rest fault.0 bytes fault.1)))
    ]

-- bytes have a division
pub divided : (bytes : List ℕ)
    → AreBytes bytes → (ms : List Message) × ((rest : List ℕ) × IsStream bytes ms rest)
divided bytes fits = divided-within (length bytes) bytes (omega arith) fits
