-- Bytes of the memory, in a row.
use Rattle.std.proofs.Common.{◌≡◌, ◌<◌, ◌+◌, ◌-◌, ◌%◌, ℕ, zero, suc, List, [], ◌∷◌, ◌++◌, take}
use Rattle.std.proofs.Common.{refl, arith, ap, ap₂, sym, ◌∙◌, append_assoc, append-nil, slice_index}
use Rattle.gb_formats.specs.I2cDevice.{I2cDevice, after_read, counted_from, next_place, read_from}

-- ---- the first bytes

-- numbers in a row, and one more
pub counted_more : (n k : ℕ) → counted_from n (suc k) ≡ counted_from n k ++ (n + k) ∷ []
unfolding counted_from
counted_more n zero = ap (λ (m : ℕ). m ∷ []) (omega arith)
counted_more n (suc k) =
    ap (λ (xs : List ℕ). n ∷ xs)
    (counted_more (n + 1) k ∙ ap (λ (m : ℕ). counted_from (n + 1) k ++ m ∷ []) (omega arith))

pub counted_none : (xs : List ℕ) → take 0 xs ≡ counted_from 0 0
unfolding counted_from
counted_none xs = refl

-- ---- reads

-- So many bytes of a read from a place on were added to `old`, and the others are left.
pub record Midway (count counter : ℕ) (memory : List ℕ) (start place : ℕ) (old new : List ℕ)
    : Type 0 where
  pub pointer : place ≡ (start + counter) % 256
  pub bytes : new ++ read_from memory place (count - counter) ≡ old ++ read_from memory start count

-- none was read yet
pub midway_none : (count : ℕ) (memory : List ℕ) (start : ℕ) (old : List ℕ)
    → start < 256 → Midway count 0 memory start start old old
midway_none count memory start old h = record {
  pointer = omega arith;
  bytes = ap (λ (n : ℕ). old ++ read_from memory start n) (omega arith);
}

-- one more is read
pub midway_more : (count counter : ℕ) (memory : List ℕ) (start place later : ℕ)
    (old new more : List ℕ)
    → counter < count → later ≡ next_place place → more ≡ new ++ slice_index memory place ∷ []
    → Midway count counter memory start place old new
    → Midway count (counter + 1) memory start later old more
midway_more count counter memory start place later old new more h moved added m =
    let left : ℕ = count - (counter + 1) in
    let e : count - counter ≡ suc left = omega arith in
    let p = m.pointer in
    record {
      pointer = moved ∙ omega (arith, p);
      bytes = ap₂ (λ (xs : List ℕ) (n : ℕ). xs ++ read_from memory n left) added moved
          ∙ append_assoc new (slice_index memory place ∷ [])
          (read_from memory (next_place place) left)
          ∙ ap (λ (n : ℕ). new ++ read_from memory place n) (sym e)
          ∙ m.bytes;
    }

-- all were read
pub midway_bytes : (count counter : ℕ) (device : I2cDevice) (memory : List ℕ) (start place : ℕ)
    (old new : List ℕ)
    → counter ≡ count → record { memory = memory; pointer = start } ≡ device
    → Midway count counter memory start place old new
    → new ≡ old ++ read_from device.memory device.pointer count
midway_bytes count counter device memory start place old new all view m =
    let e : count - counter ≡ 0 = omega arith in
    sym (append-nil new) ∙ ap (λ (n : ℕ). new ++ read_from memory place n) (sym e) ∙ m.bytes
    ∙ ap (λ (d : I2cDevice). old ++ read_from d.memory d.pointer count) view

pub midway_memory : (count counter : ℕ) (device : I2cDevice) (memory : List ℕ) (start place : ℕ)
    (old new : List ℕ)
    → counter ≡ count → record { memory = memory; pointer = start } ≡ device
    → Midway count counter memory start place old new
    → record { memory = memory; pointer = place } ≡ after_read device count
midway_memory count counter device memory start place old new all view m =
    ap (λ (p : ℕ). record { memory = memory; pointer = p })
    (m.pointer ∙ ap (λ (n : ℕ). (start + n) % 256) all)
    ∙ ap (λ (d : I2cDevice). after_read d count) view
