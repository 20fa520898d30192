-- Numbers that are read from bytes depend on those bytes alone.
use Rattle.std.proofs.Common.{◌≡◌, ◌<◌, ◌≤◌, ◌+◌, ◌*◌, ◌/◌, ◌%◌, ℕ, zero, suc, List, [], ◌∷◌, ◌++◌}
use Rattle.std.proofs.Common.{length, take, drop, replicate, get_or, refl, arith, sym, ap, ap₂, ◌∙◌}
use Rattle.std.proofs.Common.{get_or-drop, get_or-take}
use Rattle.byteorder.specs.Endian.{little_bytes, little_from, little_number}

-- the first so many bytes are the same, where an absent one counts as 0
abbrev pub Agree : ℕ → List ℕ → List ℕ → Type 0
Agree n xs ys = (i : ℕ) → i < n → get_or xs i 0 ≡ get_or ys i 0

-- bytes and what they go on to
pub agree_front : (xs ys : List ℕ) → Agree (length xs) (xs ++ ys) xs
agree_front [] ys i h = absurd (omega arith)
agree_front (x ∷ xs) ys zero h = refl
agree_front (x ∷ xs) ys (suc i) h = agree_front xs ys i (omega arith)

none_or_zero : (n i : ℕ) → ◌≡◌ {A = ℕ} (get_or (replicate n 0) i 0) 0
none_or_zero zero i = refl
none_or_zero (suc n) zero = refl
none_or_zero (suc n) (suc i) = none_or_zero n i

zeros : (xs : List ℕ) (n i : ℕ) → get_or (xs ++ replicate n 0) i 0 ≡ get_or xs i 0
zeros [] n i = none_or_zero n i
zeros (x ∷ xs) n zero = refl
zeros (x ∷ xs) n (suc i) = zeros xs n i

-- bytes with zeros behind them
pub agree_zeros : (xs : List ℕ) (n size : ℕ) → Agree size (xs ++ replicate n 0) xs
agree_zeros xs n size i h = zeros xs n i

-- the first bytes alone
pub agree_take : (n : ℕ) (xs : List ℕ) → Agree n (take n xs) xs
agree_take n xs i h = get_or-take n xs i 0 h

-- fewer of them
pub agree_less : (m n : ℕ) (xs ys : List ℕ) → m ≤ n → Agree n xs ys → Agree m xs ys
agree_less m n xs ys h a i l = a i (omega arith)

-- what follows the first bytes
pub agree_drop : (k n : ℕ) (xs ys : List ℕ) → Agree (k + n) xs ys → Agree n (drop k xs) (drop k ys)
agree_drop k n xs ys a i h =
    get_or-drop k xs i 0 ∙ a (k + i) (omega arith) ∙ sym (get_or-drop k ys i 0)

from_same : (i n : ℕ) (xs ys : List ℕ)
    → Agree (i + n) xs ys → little_from i n xs ≡ little_from i n ys
from_same i zero xs ys a = refl
from_same i (suc n) xs ys a =
    ap₂ (λ (x rest : ℕ). x + 256 * rest) (a i (omega arith))
    (from_same (suc i) n xs ys (λ j h. a j (omega arith)))

-- a number
pub number_same : (n : ℕ) (xs ys : List ℕ) → Agree n xs ys → little_number n xs ≡ little_number n ys
number_same n xs ys a = from_same 0 n xs ys (λ i h. a i (omega arith))

-- a number behind the first bytes
pub number_same_at : (k n : ℕ) (xs ys : List ℕ)
    → Agree (k + n) xs ys → little_number n (drop k xs) ≡ little_number n (drop k ys)
number_same_at k n xs ys a = number_same n (drop k xs) (drop k ys) (agree_drop k n xs ys a)

-- a number in the first bytes
pub number_in_front : (k n : ℕ) (bytes first : List ℕ)
    → first ≡ take (k + n) bytes → little_number n (drop k first) ≡ little_number n (drop k bytes)
number_in_front k n bytes first e =
    ap (λ (xs : List ℕ). little_number n (drop k xs)) e
    ∙ number_same_at k n (take (k + n) bytes) bytes (agree_take (k + n) bytes)

-- ---- numbers that are written

-- one byte
pub one_byte : (n : ℕ) → n + 256 * 0 ≡ n
one_byte n = omega arith

-- two bytes
pub two_bytes : (n : ℕ) → n < 65536 → n % 256 + 256 * (n / 256 % 256 + 256 * 0) ≡ n
two_bytes n h = omega arith

-- four bytes
pub four_bytes : (n : ℕ) → n < 4294967296 → little_number 4 (little_bytes 4 n) ≡ n
four_bytes n h = omega arith
