-- Which words are no type.
use Rattle.std.proofs.Common.{◌≡◌, ◌≢◌, ℕ, Bool, true, false, cond, Result, Ok, Err, List, []}
use Rattle.std.proofs.Common.{length, refl, sym, ◌∙◌, arith}
use Rattle.std.specs.Prelude.{Some, None, option_and_then, nat_lt, codes}
use Rattle.std.specs.Str.{bytes_eq}
use Rattle.std.proofs.lemmas.Bool.Decides.{nat_tests}
use Rattle.hex.specs.Hex.{decode_of, decode_sized}
use Rattle.hex.specs.declared.error.FromHexError.{FromHexError}
use Rattle.hex.proofs.HexLemmas.{decode_of-ok, decode_sized-twice}
use Rattle.gb_formats.specs.WordValues.{decoded_bytes, low_byte, type_word}

-- several bytes, or none, are no low byte
not_one : (bytes : List ℕ) → length bytes ≢ 1 → low_byte bytes ≡ None
not_one bytes h = grind (arith, nat_tests)

decoded : (w : List ℕ) (e : FromHexError) → decode_sized w 1 ≡ Err e
    → (d : Result (List ℕ) FromHexError) → decode_of w ≡ d
    → option_and_then low_byte (decoded_bytes d) ≡ None
decoded w e h (Err f) is = refl
decoded w e h (Ok bytes) is =
    let twice = (decode_of-ok w bytes is).2 in
    not_one bytes (λ one. absurd (cc (sym h ∙ decode_sized-twice w 1 (omega arith) ∙ is)))

-- a word that isn't two hex digits is no type
pub type_word-none : (w : List ℕ) (e : FromHexError) → decode_sized w 1 ≡ Err e → type_word w ≡ None
type_word-none w e h = by_tests (bytes_eq w (codes "-")) (nat_lt 0 (length w))
  where
    by_tests : (dash some : Bool)
        → option_and_then low_byte
        (cond dash (Some []) (cond some (decoded_bytes (decode_of w)) None))
        ≡ None
    by_tests true some = refl
    by_tests false true = decoded w e h (decode_of w) refl
    by_tests false false = refl
