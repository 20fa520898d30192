-- A descriptor at the front of bytes: its parts, and what is wrong with it.
use Rattle.std.proofs.Common.{◌≡◌, ◌≤◌, ℕ, ◌%◌, Bool, true, false, List, length, Some, None, refl}
use Rattle.std.proofs.Common.{arith}
use Rattle.std.specs.Prelude.{◌==◌, ◌&&◌, not, nat_lt, nat_le, if◌then◌else◌}
use Rattle.std.proofs.lemmas.Bool.Decides.{nat_tests}
use Rattle.gb_formats.specs.Descriptors.{least_size_at, size_at, string_length_at, type_at}
use Rattle.gb_formats.specs.Descriptors.{words_size}
use Rattle.gb_formats.specs.Manifest.{descriptor_refusal, wrong_size}
use Rattle.gb_formats.specs.ManifestRules.{Refused}

-- what makes the descriptor at the front sound by itself
pub record IsSound (bytes : List ℕ) : Type 0 where
  pub eight : 8 ≤ size_at bytes
  pub fours : size_at bytes % 4 ≡ 0
  pub within : size_at bytes ≤ length bytes
  pub low : 1 ≤ type_at bytes
  pub high : type_at bytes ≤ 4
  pub least : least_size_at bytes ≤ size_at bytes

-- the least size of any descriptor
pub least-eight : (bytes : List ℕ) → 8 ≤ least_size_at bytes
least-eight bytes = by (type_at bytes == 2) where
  by : (b : Bool) → 8 ≤ (if b then words_size (string_length_at bytes) else 8)
  by true = omega arith
  by false = omega arith

-- four tests in a row that all fail
all_fail : (a b c d : Bool) (v w x y : Refused)
    → (if a then Some v else if b then Some w else if c then Some x else if d then Some y else None)
    ≡ None
    → (a ≡ false) × (b ≡ false) × (c ≡ false) × (d ≡ false)
all_fail true b c d v w x y e = absurd cc
all_fail false true c d v w x y e = absurd cc
all_fail false false true d v w x y e = absurd cc
all_fail false false false true v w x y e = absurd cc
all_fail false false false false v w x y e = (refl, refl, refl, refl)

none_fails : (a b c d : Bool) (v w x y : Refused) → a ≡ false → b ≡ false → c ≡ false → d ≡ false
    → (if a then Some v else if b then Some w else if c then Some x else if d then Some y else None)
    ≡ None
none_fails a b c d v w x y p q r s = rw (p, q, r, s) refl

right_size : (size left : ℕ)
    → wrong_size size left ≡ false → (4 ≤ size) × (size % 4 ≡ 0) × (size ≤ left)
right_size size left e =
    (grind (arith, nat_tests), grind (arith, nat_tests), grind (arith, nat_tests))

right_type : (t : ℕ) → not (nat_le 1 t && nat_le t 4) ≡ false → (1 ≤ t) × (t ≤ 4)
right_type t e = (grind (arith, nat_tests), grind (arith, nat_tests))

right_least : (size least : ℕ) → nat_lt size least ≡ false → least ≤ size
right_least size least e = grind (arith, nat_tests)

-- no refusal means sound
pub sound : (at : ℕ) (bytes : List ℕ) → descriptor_refusal at bytes ≡ None → IsSound bytes
sound at bytes e =
    let f = all_fail (nat_lt (length bytes) 4) (wrong_size (size_at bytes) (length bytes))
    (not (nat_le 1 (type_at bytes) && nat_le (type_at bytes) 4))
    (nat_lt (size_at bytes) (least_size_at bytes)) _ _ _ _ e in
    let size = right_size (size_at bytes) (length bytes) f.1 in
    let kind = right_type (type_at bytes) f.2 in
    let least = right_least (size_at bytes) (least_size_at bytes) f.3 in
    let eight : 8 ≤ size_at bytes = omega (arith, least, least-eight bytes) in
    record {
      eight = eight;
      fours = size.1;
      within = size.2;
      low = kind.0;
      high = kind.1;
      least = least;
    }

-- tests that fail
test_lt : (a b : ℕ) → b ≤ a → nat_lt a b ≡ false
test_lt a b h = grind (arith, nat_tests)

test_size : (size left : ℕ) → 4 ≤ size → size % 4 ≡ 0 → size ≤ left → wrong_size size left ≡ false
test_size size left a b c = grind (arith, nat_tests)

test_type : (t : ℕ) → 1 ≤ t → t ≤ 4 → not (nat_le 1 t && nat_le t 4) ≡ false
test_type t a b = grind (arith, nat_tests)

-- sound means no refusal
pub unrefused : (at : ℕ) (bytes : List ℕ) → IsSound bytes → descriptor_refusal at bytes ≡ None
unrefused at bytes h =
    let whole : 4 ≤ length bytes = omega (arith, h.eight, h.within) in
    none_fails _ _ _ _ _ _ _ _ (test_lt (length bytes) 4 whole)
    (test_size (size_at bytes) (length bytes) (omega (arith, h.eight)) h.fours h.within)
    (test_type (type_at bytes) h.low h.high) (test_lt (size_at bytes) (least_size_at bytes) h.least)
