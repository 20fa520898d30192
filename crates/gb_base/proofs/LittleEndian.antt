-- Bytes and the number that they are.
use Rattle.std.proofs.Common.{◌≡◌, ℕ, ◌<◌, ◌≤◌, List, [], ◌∷◌, length, take, refl, arith, zero, suc}
use Rattle.std.proofs.lemmas.Nat.{le_bytes_2, le_bytes_4}
use Rattle.byteorder.specs.Endian.{little_bytes, little_number}
use Rattle.gb_base.specs.Bytes.{AreBytes}

AreBytes-2 : (a b : ℕ) → a < 256 → b < 256 → AreBytes (a ∷ b ∷ [])
AreBytes-2 a b a' b' zero = a'
AreBytes-2 a b a' b' (suc zero) = b'
AreBytes-2 a b a' b' (suc (suc k)) = omega arith

AreBytes-4 : (a b c d : ℕ) → a < 256 → b < 256 → c < 256 → d < 256 → AreBytes (a ∷ b ∷ c ∷ d ∷ [])
AreBytes-4 a b c d a' b' c' d' zero = a'
AreBytes-4 a b c d a' b' c' d' (suc k) = more k where
  more : AreBytes (b ∷ c ∷ d ∷ [])
  more zero = b'
  more (suc zero) = c'
  more (suc (suc zero)) = d'
  more (suc (suc (suc k))) = omega arith

-- two bytes are those of the number that they are
pub little_bytes-number2 : (a b : ℕ) → a < 256 → b < 256
    → little_bytes 2 (little_number 2 (a ∷ b ∷ [])) ≡ a ∷ b ∷ []
little_bytes-number2 a b a' b' = le_bytes_2 (a ∷ b ∷ []) _ refl (AreBytes-2 a b a' b') (omega arith)

-- four bytes are those of the number that they are
pub little_bytes-number4 : (a b c d : ℕ) → a < 256 → b < 256 → c < 256 → d < 256
    → little_bytes 4 (little_number 4 (a ∷ b ∷ c ∷ d ∷ [])) ≡ a ∷ b ∷ c ∷ d ∷ []
little_bytes-number4 a b c d a' b' c' d' =
    le_bytes_4 (a ∷ b ∷ c ∷ d ∷ []) _ refl (AreBytes-4 a b c d a' b' c' d') (omega arith)

-- the first two of some bytes are those of the number that is read from them
pub little_bytes-number2_front : (xs : List ℕ) → AreBytes xs → 2 ≤ length xs
    → little_bytes 2 (little_number 2 xs) ≡ take 2 xs
little_bytes-number2_front [] h l = absurd (omega arith)
little_bytes-number2_front (a ∷ []) h l = absurd (omega arith)
little_bytes-number2_front (a ∷ b ∷ xs) h l = little_bytes-number2 a b (h 0) (h 1)

-- the first four of some bytes are those of the number that is read from them
pub little_bytes-number4_front : (xs : List ℕ) → AreBytes xs → 4 ≤ length xs
    → little_bytes 4 (little_number 4 xs) ≡ take 4 xs
little_bytes-number4_front [] h l = absurd (omega arith)
little_bytes-number4_front (a ∷ []) h l = absurd (omega arith)
little_bytes-number4_front (a ∷ b ∷ []) h l = absurd (omega arith)
little_bytes-number4_front (a ∷ b ∷ c ∷ []) h l = absurd (omega arith)
little_bytes-number4_front (a ∷ b ∷ c ∷ d ∷ xs) h l =
    little_bytes-number4 a b c d (h 0) (h 1) (h 2) (h 3)
