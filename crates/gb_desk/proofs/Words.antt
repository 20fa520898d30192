-- The words of a desk's table, and how a count goes up and down.
use Rattle.std.proofs.Common.{◌≡◌, ◌≢◌, ℕ, zero, suc, ◌+◌, ◌-◌, ◌*◌, ◌%◌, ◌^◌, ◌<◌, ◌≤◌, List}
use Rattle.std.proofs.Common.{[], ◌∷◌, length, refl, ap, ◌∙◌, arith}
use Rattle.std.proofs.lemmas.Nat.{mod-mul-add}
use Rattle.std.specs.Prelude.{slice_index, slice_set}

-- a word that was changed
pub word_same : (words : List ℕ) (i n : ℕ) → i < length words
    → slice_index (slice_set words i n) i ≡ n
word_same [] i n within = absurd (omega arith)
word_same (w ∷ words) zero n within = refl
word_same (w ∷ words) (suc i) n within = word_same words i n (omega arith)

-- and the others
pub word_other : (words : List ℕ) (i j n : ℕ) → j ≢ i
    → slice_index (slice_set words i n) j ≡ slice_index words j
word_other [] i j n apart = refl
word_other (w ∷ words) zero zero n apart = absurd (apart refl)
word_other (w ∷ words) zero (suc j) n apart = refl
word_other (w ∷ words) (suc i) zero n apart = refl
word_other (w ∷ words) (suc i) (suc j) n apart =
    word_other words i j n (λ same. apart (ap suc same))

pub words_as_long : (words : List ℕ) (i n : ℕ) → length (slice_set words i n) ≡ length words
words_as_long [] i n = refl
words_as_long (w ∷ words) zero n = refl
words_as_long (w ∷ words) (suc i) n = ap suc (words_as_long words i n)

-- one more
pub one_up : (n : ℕ) → n ≤ 4294967295 → (n + 1) % 2 ^ 64 ≡ n + 1
one_up n small =
    let is : n + 1 ≡ 0 * 2 ^ 64 + (n + 1) = omega arith in
    ap (λ m. m % 2 ^ 64) is ∙ mod-mul-add 0 (2 ^ 64) (n + 1) (omega arith)

-- one less
pub one_down : (n : ℕ) → 0 < n → n ≤ 4294967295 → (n + (2 ^ 64 - 1)) % 2 ^ 64 ≡ n - 1
one_down n some small =
    let is : n + (2 ^ 64 - 1) ≡ 1 * 2 ^ 64 + (n - 1) = omega arith in
    ap (λ m. m % 2 ^ 64) is ∙ mod-mul-add 1 (2 ^ 64) (n - 1) (omega arith)
