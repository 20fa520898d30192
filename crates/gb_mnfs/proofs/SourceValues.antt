-- Texts of values: they have no spaces at their ends.
use Rattle.std.proofs.Common.{◌≡◌, ℕ, ◌^◌, ◌<◌, ◌&&◌, Bool, true, List, []}
use Rattle.std.proofs.Common.{◌∷◌, ◌++◌, length, refl, sym, ap, ◌∙◌, arith, length-append}
use Rattle.std.specs.Prelude.{◌==◌, not}
use Rattle.std.specs.Fmt.{decimal}
use Rattle.std.specs.List.{list_all}
use Rattle.std.proofs.lemmas.Bool.Decides.{nat_tests}
use Rattle.std.proofs.lemmas.Fmt.{decimal_nonempty}
use Rattle.hex.specs.Hex.{encode_with}
use Rattle.gb_formats.proofs.VectorsSource.{counted}
use Rattle.gb_formats.specs.Script.{is_printable}
use Rattle.gb_formats.specs.SourceTexts.{hex_value}
use Rattle.gb_formats.specs.SourceValues.{with_first, without_back, without_front}
use Rattle.gb_formats.specs.WordValues.{is_digit}
use Rattle.gb_mnfs.proofs.Numerals.{decimal_digits, each_byte}

-- a printable byte other than the space
abbrev pub is_solid : ℕ → Bool
is_solid b = is_printable b && not (b == 32)

-- A text of a value: printable, and with no space at its ends.
pub record IsValue (v : List ℕ) : Type 0 where
  pub some : 0 < length v
  pub front : without_front v ≡ v
  pub back : without_back v ≡ v
  pub printable : list_all is_printable v ≡ true

-- ---- ends

pub joins : (x : ℕ) (l : List ℕ) → 0 < length l → with_first x l ≡ x ∷ l
joins x [] h = absurd (omega (arith, h))
joins x (y ∷ ys) h = refl

-- nothing is left off the end of a text that goes on with such a text
pub back_behind : (p v : List ℕ) → 0 < length v → without_back v ≡ v
    → without_back (p ++ v) ≡ p ++ v
back_behind [] v s e = e
back_behind (x ∷ p) v s e =
    let some : 0 < length (p ++ v) = omega (arith, s, length-append p v) in
    ap (λ l. with_first x l) (back_behind p v s e) ∙ joins x (p ++ v) some

solid_front : (b : ℕ) (bs : List ℕ) → is_solid b ≡ true → without_front (b ∷ bs) ≡ b ∷ bs
solid_front b bs h = grind (arith, nat_tests)

pub front_solid : (v rest : List ℕ) → 0 < length v → list_all is_solid v ≡ true
    → without_front (v ++ rest) ≡ v ++ rest
front_solid [] rest s h = absurd (omega (arith, s))
front_solid (b ∷ bs) rest s h = solid_front b (bs ++ rest) (grind (arith, nat_tests))

last_solid : (b : ℕ) → is_solid b ≡ true → with_first b [] ≡ b ∷ []
last_solid b h = grind (arith, nat_tests)

before : (b : ℕ) (bs : List ℕ) → is_solid b ≡ true → with_first b bs ≡ b ∷ bs
before b [] h = last_solid b h
before b (c ∷ cs) h = refl

pub back_solid : (v : List ℕ) → list_all is_solid v ≡ true → without_back v ≡ v
back_solid [] h = refl
back_solid (b ∷ bs) h =
    ap (λ l. with_first b l) (back_solid bs (grind (arith, nat_tests)))
    ∙ before b bs (grind (arith, nat_tests))

pub solid_printable : (v : List ℕ) → list_all is_solid v ≡ true → list_all is_printable v ≡ true
solid_printable [] h = refl
solid_printable (b ∷ bs) h =
    let later = solid_printable bs (grind (arith, nat_tests)) in
    rw later (grind (arith, nat_tests))

bare : (v : List ℕ) → v ++ [] ≡ v
bare [] = refl
bare (x ∷ xs) = ap (λ l. x ∷ l) (bare xs)

solid : (v : List ℕ) → 0 < length v → list_all is_solid v ≡ true → IsValue v
solid v s h = record {
  some = s;
  front = ap without_front (sym (bare v)) ∙ front_solid v [] s h ∙ bare v;
  back = back_solid v h;
  printable = solid_printable v h;
}

-- ---- numbers

digits_solid : (w : List ℕ) → list_all is_digit w ≡ true → list_all is_solid w ≡ true
digits_solid [] h = refl
digits_solid (b ∷ bs) h =
    let later = digits_solid bs (grind (arith, nat_tests)) in
    rw later (grind (arith, nat_tests))

pub IsValue-decimal : (n : ℕ) → n < 2 ^ 64 → IsValue (decimal n)
IsValue-decimal n h =
    solid (decimal n) (decimal_nonempty n h) (digits_solid (decimal n) (decimal_digits n h))

hex_solid : list_all (λ b. list_all is_solid (hex_value b)) (counted 256 0) ≡ true
unfolding encode_with
hex_solid = refl

hex_some : (b : ℕ) → 0 < length (hex_value b)
unfolding encode_with
hex_some b = omega arith

pub IsValue-hex : (b : ℕ) → b < 256 → IsValue (hex_value b)
IsValue-hex b h =
    solid (hex_value b) (hex_some b)
    (each_byte (λ b. list_all is_solid (hex_value b)) hex_solid b h)
