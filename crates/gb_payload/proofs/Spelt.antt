-- Fields that are read from bytes are written as those bytes.
use Rattle.std.proofs.Common.{◌≡◌, ◌<◌, ◌≤◌, ◌⊎◌, ◌+◌, ◌*◌, ◌==◌, if◌then◌else◌, ◌||◌, ◌&&◌, ℕ}
use Rattle.std.proofs.Common.{Bool, true, false, List, [], ◌∷◌, ◌++◌, length, take, drop, sum}
use Rattle.std.proofs.Common.{⊎_elim, refl, arith, sym, ap, ap₂, subst, ◌∙◌, length-drop}
use Rattle.std.proofs.Common.{take-append-drop, get_or-drop}
use Rattle.std.proofs.lemmas.Bool.Decides.{nat_tests}
use Rattle.std.proofs.lemmas.List.Sums.{sum_by-cons}
use Rattle.byteorder.specs.Endian.{little_bytes, little_number}
use Rattle.gb_base.specs.Bytes.{AreBytes}
use Rattle.gb_base.proofs.LittleEndian.{little_bytes-number2_front, little_bytes-number4_front}
use Rattle.gb_formats.specs.Records.{fields_of}

-- the bytes of a number of so many bytes; one byte is itself
abbrev pub spelt_field : ℕ → ℕ → List ℕ
spelt_field width n = if width == 1 then n ∷ [] else little_bytes width n

-- the bytes of numbers of these widths in a row
abbrev pub spelt_fields : List ℕ → List ℕ → List ℕ
spelt_fields [] numbers = []
spelt_fields (width ∷ widths) [] = []
spelt_fields (width ∷ widths) (n ∷ numbers) = spelt_field width n ++ spelt_fields widths numbers

-- a field has one, two or four bytes
abbrev pub is_width : ℕ → Bool
is_width width = (width == 1) || (width == 2) || (width == 4)

abbrev pub are_widths : List ℕ → Bool
are_widths [] = true
are_widths (width ∷ widths) = is_width width && are_widths widths

-- what is left of bytes are bytes
pub drop_bytes : (n : ℕ) (bytes : List ℕ) → AreBytes bytes → AreBytes (drop n bytes)
drop_bytes n bytes h k = subst (λ (m : ℕ). m < 256) (sym (get_or-drop n bytes k 0)) (h (n + k))

one_byte : (bytes : List ℕ)
    → 1 ≤ length bytes → spelt_field 1 (little_number 1 bytes) ≡ take 1 bytes
one_byte [] h = absurd (omega arith)
one_byte (b ∷ bytes) h = let e : b + 256 * 0 ≡ b = omega arith in ap (λ (n : ℕ). n ∷ []) e

one_of : (width : ℕ) → is_width width ≡ true → (width ≡ 1) ⊎ (width ≡ 2) ⊎ (width ≡ 4)
one_of width h = grind (arith, nat_tests)

both : (a b : Bool) → (a && b) ≡ true → (a ≡ true) × (b ≡ true)
both true b h = (refl, h)
both false b h = cc

-- one field
pub field_spelt : (width : ℕ) (bytes : List ℕ) → is_width width ≡ true → AreBytes bytes
    → width ≤ length bytes → spelt_field width (little_number width bytes) ≡ take width bytes
field_spelt width bytes w b h =
    ⊎_elim (λ e. at 1 e (one_byte bytes))
    (⊎_elim (λ e. at 2 e (little_bytes-number2_front bytes b))
    (λ e. at 4 e (little_bytes-number4_front bytes b))) (one_of width w)
  where
    at : (n : ℕ) → width ≡ n
        → (n ≤ length bytes → spelt_field n (little_number n bytes) ≡ take n bytes)
        → spelt_field width (little_number width bytes) ≡ take width bytes
    at n e law =
        subst (λ (k : ℕ). k ≤ length bytes → spelt_field k (little_number k bytes) ≡ take k bytes)
        (sym e) law h

none : (bytes : List ℕ) → length bytes ≡ 0 → [] ≡ bytes
none [] h = refl
none (b ∷ bytes) h = absurd (omega arith)

-- all of them
pub fields_spelt : (widths bytes : List ℕ) → are_widths widths ≡ true → AreBytes bytes
    → length bytes ≡ sum widths → spelt_fields widths (fields_of widths bytes) ≡ bytes
fields_spelt [] bytes w b h = none bytes h
fields_spelt (width ∷ widths) bytes w b h =
    let ws = both (is_width width) (are_widths widths) w in
    let long = length-drop width bytes in
    let total = sum_by-cons (λ (n : ℕ). n) width widths in
    let rest = fields_spelt widths (drop width bytes) ws.1 (drop_bytes width bytes b)
    (omega (arith, long, h, total)) in
    ap₂ (λ (xs ys : List ℕ). xs ++ ys) (field_spelt width bytes ws.0 b (omega (arith, h, total)))
    rest
    ∙ take-append-drop width bytes
