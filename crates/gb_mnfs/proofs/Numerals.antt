-- Numbers that are written are read back.
use Rattle.std.proofs.Common.{◌≡◌, ℕ, zero, suc, ◌+◌, ◌^◌, ◌<◌, ◌≤◌, ◌&&◌, ◌||◌, Bool, true, false}
use Rattle.std.proofs.Common.{List, [], ◌∷◌, length, take, refl, ap, ◌∙◌, Some}
use Rattle.std.proofs.Common.{None, Option, arith, codes}
use Rattle.std.specs.Prelude.{◌==◌, nat_le, nat_lt, slice_index}
use Rattle.std.specs.Bool.{then_some}
use Rattle.std.specs.Fmt.{decimal}
use Rattle.std.specs.List.{list_all}
use Rattle.std.specs.Str.{bytes_eq}
use Rattle.std.proofs.lemmas.Bool.Decides.{nat_tests}
use Rattle.std.proofs.lemmas.Fmt.{decimal_digit, decimal_nonempty, digits_decimal, first_decimal}
use Rattle.std.proofs.lemmas.Fmt.{digits_value-decimal}
use Rattle.std.proofs.lemmas.Str.Parse.{FoldsDigits, IsDigitsTest, IsNumeralModel, numerals_by_fold}
use Rattle.hex.specs.Hex.{encode_with}
use Rattle.gb_formats.proofs.VectorsSource.{counted}
use Rattle.gb_formats.specs.SourceTexts.{hex_value}
use Rattle.gb_formats.specs.SourceValues.{source_number}
use Rattle.gb_formats.specs.WordValues.{is_digit, is_number, number_after, number_of, number_word}

-- ---- decimal digits

abbrev AreDigits : List ℕ → Type 0
AreDigits ds = list_all is_digit ds ≡ true

tells : IsDigitsTest AreDigits
tells = record {
  empty = refl;
  parts =
      λ c cs h.
      ((grind (arith, nat_tests), grind (arith, nat_tests)), grind (arith, nat_tests));
  more = λ c cs k h. grind (arith, nat_tests, k.0, k.1, h);
}

folds : FoldsDigits number_after
folds = record { empty = λ n. refl; more = λ n c cs k. refl }

model : IsNumeralModel AreDigits (number_after 0)
model = numerals_by_fold AreDigits tells number_after folds

pub decimal_digits : (n : ℕ) → n < 2 ^ 64 → list_all is_digit (decimal n) ≡ true
decimal_digits n h = digits_decimal model n h

decimal_value : (n : ℕ) → n < 2 ^ 64 → number_of (decimal n) ≡ n
decimal_value n h = digits_value-decimal model n h

lead : (n : ℕ) → n < 2 ^ 64
    → nat_lt 48 (slice_index (decimal n) 0) || length (decimal n) == 1 ≡ true
lead zero h =
    let one : length (decimal 0) ≡ 1 = ap length (decimal_digit 0 (omega arith)) in
    grind (arith, nat_tests)
lead (suc n) h =
    let high = first_decimal (suc n) (omega arith) h in
    grind (arith, nat_tests)

numeral : (some digits lead : Bool) → some ≡ true → digits ≡ true → lead ≡ true
    → some && digits && lead ≡ true
numeral true true true a b c = refl
numeral true true false a b c = absurd cc
numeral true false lead a b c = absurd cc
numeral false digits lead a b c = absurd cc

is_number_decimal : (n : ℕ) → n < 2 ^ 64 → is_number (decimal n) ≡ true
is_number_decimal n h =
    let some = decimal_nonempty n h in
    numeral (nat_lt 0 (length (decimal n))) (list_all is_digit (decimal n)) _
    (grind (arith, nat_tests)) (decimal_digits n h) (lead n h)

within : (n greatest : ℕ) (t : Bool) → t ≡ true → n ≤ greatest
    → then_some (t && nat_le 0 n && nat_le n greatest) n ≡ Some n
within n greatest true e h = grind (arith, nat_tests)
within n greatest false e h = absurd cc

decimal_read : (greatest n : ℕ) → n ≤ greatest → n < 2 ^ 64
    → number_word 0 greatest (decimal n) ≡ Some n
decimal_read greatest n h small =
    ap (λ v. then_some (is_number (decimal n) && nat_le 0 v && nat_le v greatest) v)
    (decimal_value n small)
    ∙ within n greatest (is_number (decimal n)) (is_number_decimal n small) h

-- digits aren't `0x`
no_hex : (w : List ℕ) → list_all is_digit w ≡ true → bytes_eq (take 2 w) (codes "0x") ≡ false
no_hex [] h = refl
no_hex (a ∷ []) h = grind (arith, nat_tests)
no_hex (a ∷ b ∷ bs) h = grind (arith, nat_tests)

pub decimal_back : (greatest n : ℕ) → n ≤ greatest → n < 2 ^ 64
    → source_number greatest (decimal n) ≡ Some n
decimal_back greatest n h small =
    rw (no_hex (decimal n) (decimal_digits n small)) (decimal_read greatest n h small)

-- ---- facts that hold of each byte

left : (a b : Bool) → (a && b) ≡ true → a ≡ true
left true b h = refl
left false b h = absurd cc

right : (a b : Bool) → (a && b) ≡ true → b ≡ true
right true b h = h
right false b h = absurd cc

from_first : (p : ℕ → Bool) (n first k : ℕ) (t : Bool) → (k == first) ≡ t
    → list_all p (counted (suc n) first) ≡ true → first ≤ k
    → (first + 1 ≤ k → list_all p (counted n (first + 1)) ≡ true → p k ≡ true) → p k ≡ true
from_first p n first k true e h a later =
    let same : k ≡ first = grind (arith, nat_tests) in
    ap p same ∙ left (p first) (list_all p (counted n (first + 1))) h
from_first p n first k false e h a later =
    let next : first + 1 ≤ k = grind (arith, nat_tests) in
    later next (right (p first) (list_all p (counted n (first + 1))) h)

from : (p : ℕ → Bool) (n first : ℕ) → list_all p (counted n first) ≡ true → (k : ℕ)
    → first ≤ k → k < first + n → p k ≡ true
from p zero first h k a b = absurd (omega (arith, a, b))
from p (suc n) first h k a b =
    from_first p n first k (k == first) refl h a
    (λ next rest. from p n (first + 1) rest k next (omega (arith, b)))

-- A test that each byte passes.
pub each_byte : (p : ℕ → Bool) → list_all p (counted 256 0) ≡ true → (b : ℕ) → b < 256
    → p b ≡ true
each_byte p h b s = from p 256 0 h b (omega arith) (omega (arith, s))

-- ---- two hex digits

abbrev is_some_of : ℕ → Option ℕ → Bool
is_some_of n None = false
is_some_of n (Some m) = m == n

told : (n : ℕ) (o : Option ℕ) → is_some_of n o ≡ true → o ≡ Some n
told n None h = absurd cc
told n (Some m) h =
    let same : m ≡ n = grind (arith, nat_tests) in ap (λ x. Some x) same

hex_all : list_all (λ b. is_some_of b (source_number 255 (hex_value b))) (counted 256 0) ≡ true
unfolding encode_with
hex_all = refl

pub hex_back : (b : ℕ) → b < 256 → source_number 255 (hex_value b) ≡ Some b
hex_back b h = told b (source_number 255 (hex_value b))
    (each_byte (λ b. is_some_of b (source_number 255 (hex_value b))) hex_all b h)
