-- What the tests of names and tags tell.
use Rattle.std.proofs.Common.{◌≡◌, ◌∙◌, ◌+◌, ◌-◌, ◌++◌, ◌&&◌, ℕ, ◌<◌, ◌≤◌, List, [], ◌∷◌, length}
use Rattle.std.proofs.Common.{ap, arith, drop, refl, set, slice_index_or, sym, take}
use Rattle.std.proofs.Common.{true, IsAscii}
use Rattle.std.proofs.Math.Seq.{drop-cons, take-append_seam}
use Rattle.std.proofs.lemmas.Bool.Decides.{nat_tests}
use Rattle.std.proofs.lemmas.List.{append_assoc, length-take, set-append_right, take_more}
use Rattle.std.specs.List.{list_all}
use Rattle.std.specs.Prelude.{replicate, zero, suc}
use Rattle.gb_base.specs.Name.{HoldsName, is_name, is_name_byte, padded}
use Rattle.gb_base.specs.Tag.{is_tag}

-- where the length is right, the bytes decide
pub is_name-fits : (w : List ℕ) → 0 < length w → length w ≤ 16 → is_name w ≡ list_all is_name_byte w
is_name-fits w some most = grind (arith, nat_tests)

-- the bytes of a name are below 0x80
bytes-ascii : (w : List ℕ) → list_all is_name_byte w ≡ true → IsAscii w
bytes-ascii [] all i = omega arith
bytes-ascii (b ∷ w) all zero = grind (arith, nat_tests)
bytes-ascii (b ∷ w) all (suc i) = bytes-ascii w (grind (arith, nat_tests)) i

pub is_name-ascii : (w : List ℕ) → is_name w ≡ true → IsAscii w
is_name-ascii w is = bytes-ascii w (grind (arith, nat_tests))

-- where a byte is a name's, those behind it decide
pub all-behind : (w : List ℕ) (i : ℕ) → i < length w → is_name_byte (slice_index_or w i 0) ≡ true
    → list_all is_name_byte (drop (i + 1) w) ≡ list_all is_name_byte (drop i w)
all-behind w i less is =
    let next : i + 1 ≡ suc i = omega arith in
    ap (λ n. list_all is_name_byte (drop n w)) next
    ∙ ap (λ t. t && list_all is_name_byte (drop (suc i) w)) (sym is)
    ∙ ap (list_all is_name_byte) (sym (drop-cons w i 0 less))

-- the first of zeros is written over
set-first : (m v : ℕ) → set (replicate (suc m) 0) 0 v ≡ v ∷ replicate m 0
set-first m v = refl

-- one more byte stands in its place
pub placed-more : (w places : List ℕ) (i : ℕ) → i < length w → length w ≤ 16
    → places ≡ take i w ++ replicate (16 - i) 0
    → set places i (slice_index_or w i 0) ≡ take (i + 1) w ++ replicate (16 - (i + 1)) 0
placed-more w places i less most is =
    let v : ℕ = slice_index_or w i 0 in
    let rest : List ℕ = replicate (16 - (i + 1)) 0 in
    let size : 16 - i ≡ suc (16 - (i + 1)) = omega (arith, less, most) in
    let none : i - i ≡ 0 = omega arith in
    let long : length (take i w) ≡ i = length-take i w ∙ omega (arith, less) in
    ap (λ p. set p i v) is
    ∙ set-append_right (take i w) (replicate (16 - i) 0) i i v long (omega arith)
    ∙ ap (λ n. take i w ++ set (replicate (16 - i) 0) n v) none
    ∙ ap (λ n. take i w ++ set (replicate n 0) 0 v) size
    ∙ ap (λ r. take i w ++ r) (set-first (16 - (i + 1)) v)
    ∙ sym (append_assoc (take i w) (v ∷ []) rest)
    ∙ ap (λ t. t ++ rest) (sym (take_more w i 0 less))

-- a name stands in front of its zeros
pub front : (w : List ℕ) → take (length w) (padded w) ≡ w
front w = take-append_seam w (replicate (16 - length w) 0)

pub HoldsName-padded : (w : List ℕ) → is_name w ≡ true → HoldsName (length w) (padded w)
HoldsName-padded w is = record {
  few = grind (arith, nat_tests);
  name = ap is_name (front w) ∙ is;
  zeros = ap padded (sym (front w));
}

-- ---- tags

-- where the length is right, the bytes decide
pub is_tag-fits : (w : List ℕ) → 0 < length w → length w ≤ 9 → is_tag w ≡ list_all is_name_byte w
is_tag-fits w some most = grind (arith, nat_tests)

pub is_tag-ascii : (w : List ℕ) → is_tag w ≡ true → IsAscii w
is_tag-ascii w is = bytes-ascii w (grind (arith, nat_tests))
