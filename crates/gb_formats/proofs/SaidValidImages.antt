-- What lines of firmware say is valid: an image has no more bytes than its line.
use Rattle.std.proofs.Common.{◌≡◌, ◌≤◌, ℕ, suc, ◌+◌, Bool, true, false, List, [], ◌∷◌, ◌++◌}
use Rattle.std.proofs.Common.{refl, subst, arith, length, length-append}
use Rattle.std.proofs.lemmas.Bool.Decides.{nat_tests}
use Rattle.std.specs.Prelude.{Some, None, Result, Ok, Err, ⊤, ◌==◌, ◌%◌, nat_lt}
use Rattle.std.specs.Prelude.{if◌then◌else◌, codes}
use Rattle.std.specs.Bool.{then_some}
use Rattle.std.specs.Str.{bytes_eq}
use Rattle.hex.specs.Hex.{decode_of, decode_pairs, pair_value, ◌>>=◌}
use Rattle.hex.specs.declared.error.FromHexError.{FromHexError}
use Rattle.gb_base.specs.Tag.{is_tag}
use Rattle.gb_base.specs.declared.event.Event.TheVariants as event
use Rattle.gb_formats.specs.Grammar.{giving_image, loading}
use Rattle.gb_formats.specs.Said.{Rest, at_end, next_word}
use Rattle.gb_formats.specs.ValidEvents.{IsTag}
use Rattle.gb_formats.specs.WordValues.{decoded_bytes, hex_digits, hex_word, tag_word}
use Rattle.gb_formats.specs.Words.{word_of, words_after}
use Rattle.gb_formats.proofs.SaidValid.{OfSome, SaysValid, at_end-valid, by_meaning-valid}
use Rattle.gb_formats.proofs.SaidValid.{next_cport-valid, next_word-valid}

-- ---- no word is longer than its line

-- each word has at most so many bytes
abbrev pub AreShort : ℕ → List (List ℕ) → Type 0
AreShort n [] = ⊤
AreShort n (w ∷ ws) = (length w ≤ n) × AreShort n ws

word_of-short : (n : ℕ) (w : List ℕ) (ws : List (List ℕ)) → length w ≤ n → AreShort n ws
    → AreShort n (word_of w ++ ws)
word_of-short n [] ws h k = k
word_of-short n (b ∷ bs) ws h k = (h, k)

pub words_after-short : (n : ℕ) (front line : List ℕ) → length front + length line ≤ n
    → AreShort n (words_after front line)
words_after-short n [] [] h = tt
words_after-short n (b ∷ bs) [] h = (omega arith, tt)
words_after-short n front (b ∷ bs) h =
    by (b == 32) (word_of-short n front (words_after [] bs) (omega arith)
    (words_after-short n [] bs (omega arith)))
    (words_after-short n (front ++ b ∷ []) bs (omega (arith, length-append front (b ∷ []))))
  where
    by : (t : Bool) → AreShort n (word_of front ++ words_after [] bs)
        → AreShort n (words_after (front ++ b ∷ []) bs)
        → AreShort n (if t then word_of front ++ words_after [] bs
        else words_after (front ++ b ∷ []) bs)
    by true h k = h
    by false h k = k

-- ---- a word spells no more bytes than it has

joined-few : (n : ℕ) (byte : Result ℕ FromHexError) (rest : Result (List ℕ) FromHexError)
    (bytes : List ℕ) → ((xs : List ℕ) → rest ≡ Ok xs → length xs ≤ n)
    → byte >>= (λ b. rest >>= (λ bs. Ok (b ∷ bs))) ≡ Ok bytes → length bytes ≤ suc n
joined-few n (Ok b) (Ok bs) bytes few is =
    let k : length bs ≤ n = few bs refl in
    subst (λ r. len r ≤ suc n) is (omega arith)
  where
    len : Result (List ℕ) FromHexError → ℕ
    len (Ok xs) = length xs
    len (Err e) = 0
joined-few n (Ok b) (Err e) bytes few is = absurd cc
joined-few n (Err e) rest bytes few is = absurd cc

decode_pairs-few : (i : ℕ) (w bytes : List ℕ) → decode_pairs i w ≡ Ok bytes
    → length bytes ≤ length w
unfolding decode_pairs
decode_pairs-few i [] bytes is = subst (λ r. len r ≤ 0) is (omega arith)
  where
    len : Result (List ℕ) FromHexError → ℕ
    len (Ok xs) = length xs
    len (Err e) = 0
decode_pairs-few i (digit ∷ []) bytes is = absurd cc
decode_pairs-few i (high ∷ low ∷ rest) bytes is =
    let few = joined-few (length rest) (pair_value high low i) (decode_pairs (i + 2) rest) bytes
    (λ xs so. decode_pairs-few (i + 2) rest xs so) is in
    omega arith

decode_of-few : (w bytes : List ℕ) → decode_of w ≡ Ok bytes → length bytes ≤ length w
decode_of-few w bytes is = by (length w % 2 == 1) is
  where
    by : (t : Bool) → (if t then Err FromHexError.OddLength else decode_pairs 0 w) ≡ Ok bytes
        → length bytes ≤ length w
    by true is = absurd cc
    by false is = decode_pairs-few 0 w bytes is

-- the bytes that a hex word spells, at most as many as it has
hex_word-few : (n : ℕ) (w : List ℕ) → length w ≤ n → OfSome (λ bytes. length bytes ≤ n) (hex_word w)
hex_word-few n w short = by (bytes_eq w (codes "-")) (digits (nat_lt 0 (length w)))
  where
    decoded : (r : Result (List ℕ) FromHexError) → decode_of w ≡ r
        → OfSome (λ bytes. length bytes ≤ n) (decoded_bytes r)
    decoded (Ok bytes) is =
        let few = decode_of-few w bytes is in omega arith
    decoded (Err e) is = tt

    digits : (t : Bool) → OfSome (λ bytes. length bytes ≤ n)
        (if t then decoded_bytes (decode_of w) else None)
    digits true = decoded (decode_of w) refl
    digits false = tt

    by : (t : Bool) → OfSome (λ bytes. length bytes ≤ n) (hex_digits w)
        → OfSome (λ bytes. length bytes ≤ n) (if t then Some [] else hex_digits w)
    by true h = omega arith
    by false h = h

-- ---- the forms

tag_word-in : (w : List ℕ) → OfSome IsTag (tag_word w)
tag_word-in w = tested (is_tag w) (λ h. grind (arith, nat_tests))
  where
    tested : (b : Bool) → (b ≡ true → IsTag w) → OfSome IsTag (then_some b w)
    tested true h = h refl
    tested false h = tt

bytes-valid : (tag : List ℕ) (ws : Rest) → IsTag tag → AreShort 8192 ws.1
    → SaysValid (next_word hex_word ws (λ bytes ws. at_end ws (event.Image tag bytes)))
bytes-valid tag (place, []) t short = tt
bytes-valid tag (place, w ∷ ws) t short =
    by_meaning-valid (λ bytes. length bytes ≤ 8192) place (hex_word w)
    (λ bytes. at_end (place + 1, ws) (event.Image tag bytes)) (hex_word-few 8192 w short.0)
    (λ bytes few. at_end-valid (place + 1, ws) (event.Image tag bytes) (t, omega arith))

pub giving_image-valid : (ws : Rest) → AreShort 8192 ws.1 → SaysValid (giving_image ws)
giving_image-valid (place, []) short = tt
giving_image-valid (place, w ∷ ws) short =
    by_meaning-valid IsTag place (tag_word w)
    (λ tag. next_word hex_word (place + 1, ws) (λ bytes ws. at_end ws (event.Image tag bytes)))
    (tag_word-in w) (λ tag t. bytes-valid tag (place + 1, ws) t short.1)

pub loading-valid : (ws : Rest) → SaysValid (loading ws)
loading-valid ws =
    next_cport-valid ws _ (λ i c ws p q.
    next_word-valid IsTag tag_word ws (λ tag ws. at_end ws (event.Load i c tag)) tag_word-in
    (λ tag ws t. at_end-valid ws (event.Load i c tag) (p, q, t)))
