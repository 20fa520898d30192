-- The size of a transfer, which its items tell: the ops of an I2C transfer, the entries of
-- an SPI transfer.
use Rattle.std.proofs.Common.{◌≡◌, ◌<◌, ◌≤◌, ◌⊎◌, ◌+◌, ◌-◌, ◌*◌, ℕ, zero, suc, inl, inr, ⊎_elim}
use Rattle.std.proofs.Common.{List, ◌++◌, length, take, drop, replicate, refl, arith, sym, ap, ap₂}
use Rattle.std.proofs.Common.{subst, ◌∙◌, length-drop, length-take-le, take_all}
use Rattle.std.proofs.lemmas.Bool.{cases_lt}
use Rattle.std.proofs.lemmas.List.{drop-take}
use Rattle.byteorder.specs.Endian.{little_number}
use Rattle.gb_payload.proofs.Places.{IsSize}
use Rattle.gb_bridge_payload.proofs.Numbers.{Agree, agree_drop, agree_front, agree_less, agree_take}
use Rattle.gb_bridge_payload.proofs.Numbers.{agree_zeros, number_same_at}

-- Items of so many bytes each: how many bytes the one at the front writes, and how many so many of
-- them write.
pub record AreItems (width : ℕ) (one : List ℕ → ℕ) (all : ℕ → List ℕ → ℕ) : Type 0 where
  pub none : (bytes : List ℕ) → all 0 bytes ≡ 0
  pub more : (n : ℕ) (bytes : List ℕ) → all (suc n) bytes ≡ one bytes + all n (drop width bytes)
  pub same : (xs ys : List ℕ) → Agree width xs ys → one xs ≡ one ys

-- they are told by their own bytes
pub items_same : (width : ℕ) (one : List ℕ → ℕ) (all : ℕ → List ℕ → ℕ) → AreItems width one all
    → (n : ℕ) (xs ys : List ℕ) → Agree (width * n) xs ys → all n xs ≡ all n ys
items_same width one all items zero xs ys a = items.none xs ∙ sym (items.none ys)
items_same width one all items (suc n) xs ys a =
    let e : width * suc n ≡ width + width * n = omega arith in
    let a' : Agree (width + width * n) xs ys = subst (λ (m : ℕ). Agree m xs ys) e a in
    items.more n xs
    ∙ ap₂ (λ (x rest : ℕ). x + rest)
    (items.same xs ys (agree_less width (width + width * n) xs ys (omega arith) a'))
    (items_same width one all items n (drop width xs) (drop width ys)
    (agree_drop width (width * n) xs ys a'))
    ∙ sym (items.more n ys)

-- ---- the size of a transfer

-- a count of items in two bytes behind the first `at`, the items from `base` on, and
-- what they write
abbrev pub transfer_size : ℕ → ℕ → ℕ → (ℕ → List ℕ → ℕ) → List ℕ → ℕ
transfer_size at base width all bytes =
    base + width * little_number 2 (drop at bytes)
    + all (little_number 2 (drop at bytes)) (drop base bytes)

-- of a count that is known
sized : (base width : ℕ) (all : ℕ → List ℕ → ℕ) (xs ys : List ℕ) (m n : ℕ) → m ≡ n
    → all n (drop base xs) ≡ all n (drop base ys)
    → base + width * m + all m (drop base xs) ≡ base + width * n + all n (drop base ys)
sized base width all xs ys m n e h =
    ap (λ (k : ℕ). base + width * k + all k (drop base xs)) e
    ∙ ap (λ (k : ℕ). base + width * n + k) h

-- it is told by the first bytes
pub transfer_is_size : (at base width : ℕ) (one : List ℕ → ℕ) (all : ℕ → List ℕ → ℕ)
    → at + 2 ≤ base → AreItems width one all → IsSize (transfer_size at base width all)
transfer_is_size at base width one all room items = record { pads = pads; front = front } where
  count : List ℕ → ℕ
  count bytes = little_number 2 (drop at bytes)

  pads : (bytes : List ℕ) (n : ℕ)
      → transfer_size at base width all (bytes ++ replicate n 0)
      ≡ transfer_size at base width all bytes
  pads bytes n =
      sized base width all (bytes ++ replicate n 0) bytes
      (little_number 2 (drop at (bytes ++ replicate n 0))) (little_number 2 (drop at bytes))
      (number_same_at at 2 (bytes ++ replicate n 0) bytes (agree_zeros bytes n (at + 2)))
      (items_same width one all items (little_number 2 (drop at bytes)) _ _
      (agree_drop base (width * little_number 2 (drop at bytes)) (bytes ++ replicate n 0) bytes
      (agree_zeros bytes n (base + width * little_number 2 (drop at bytes)))))

  counted : (bytes rest : List ℕ) (m n : ℕ) → m ≡ little_number 2 (drop at (bytes ++ rest))
      → n ≡ little_number 2 (drop at bytes) → m ≡ n
      → (base + width * n < length bytes) ⊎ (length bytes ≤ base + width * n)
      → (transfer_size at base width all (bytes ++ rest) ≡ transfer_size at base width all bytes)
      ⊎ (length bytes ≤ transfer_size at base width all bytes)
      × (length bytes ≤ transfer_size at base width all (bytes ++ rest))
  counted bytes rest m n is_m is_n e (inl past) =
      inl (sized base width all (bytes ++ rest) bytes _ _ (sym is_m ∙ e ∙ is_n)
      (items_same width one all items _ _ _
      (agree_drop base _ (bytes ++ rest) bytes
      (agree_less _ (length bytes) (bytes ++ rest) bytes
      (subst (λ (k : ℕ). base + width * k ≤ length bytes) is_n (omega arith))
      (agree_front bytes rest)))))
  counted bytes rest m n is_m is_n e (inr inside) = inr (
    subst (λ (k : ℕ). length bytes ≤ base + width * k + all k (drop base bytes)) is_n (omega arith),
    subst (λ (k : ℕ). length bytes ≤ base + width * k + all k (drop base (bytes ++ rest))) is_m
        (subst (λ (k : ℕ). length bytes ≤ base + width * k + all k (drop base (bytes ++ rest)))
        (sym e) (omega arith)),
  )

  front : (bytes rest : List ℕ)
      → (transfer_size at base width all (bytes ++ rest) ≡ transfer_size at base width all bytes)
      ⊎ (length bytes ≤ transfer_size at base width all bytes)
      × (length bytes ≤ transfer_size at base width all (bytes ++ rest))
  front bytes rest = ⊎_elim
      (λ short. inr (omega arith, omega arith))
      (λ long. counted bytes rest _ _ refl refl
      (number_same_at at 2 (bytes ++ rest) bytes
      (agree_less (at + 2) (length bytes) (bytes ++ rest) bytes long (agree_front bytes rest)))
      (cases_lt (base + width * little_number 2 (drop at bytes)) (length bytes)))
      (cases_lt (length bytes) (at + 2))

-- ---- a transfer that is read

-- what stands behind `base` bytes of a front
pub behind : (base more : ℕ) (bytes front : List ℕ) → base + more ≤ length bytes
    → front ≡ take (base + more) bytes
    → take (length front - base) (drop base front) ≡ take more (drop base bytes)
behind base more bytes front h e =
    let long : length front ≡ base + more =
    ap (λ (xs : List ℕ). length xs) e ∙ length-take-le (base + more) bytes h in
    let rest = length-drop base front in
    take_all (length front - base) (drop base front) (omega (arith, rest))
    ∙ ap (drop base) e
    ∙ drop-take base more bytes

-- what follows bytes
pub what_follows : (n : ℕ) (bytes : List ℕ) → take (length bytes - n) (drop n bytes) ≡ drop n bytes
what_follows n bytes =
    let rest = length-drop n bytes in
    take_all (length bytes - n) (drop n bytes) (omega (arith, rest))

-- the size of a transfer, from its count and its items
pub size_told : (at base width : ℕ) (one : List ℕ → ℕ) (all : ℕ → List ℕ → ℕ) (bytes items : List ℕ)
    (count written : ℕ)
    → AreItems width one all → count ≡ little_number 2 (drop at bytes)
    → items ≡ take (width * count) (drop base bytes) → written ≡ all count items
    → transfer_size at base width all bytes ≡ base + width * count + written
size_told at base width one all bytes items count written are counted taken weighed =
    ap (λ (n : ℕ). base + width * n + all n (drop base bytes)) (sym counted)
    ∙ ap (λ (n : ℕ). base + width * count + n)
    (sym (weighed ∙ ap (all count) taken
    ∙ items_same width one all are count (take (width * count) (drop base bytes)) (drop base bytes)
    (agree_take (width * count) (drop base bytes))))

-- ---- one more of the items

-- What so many of the items write is counted, and the others are left.
pub record Counted (width : ℕ) (all : ℕ → List ℕ → ℕ) (most count counter size : ℕ)
    (bytes left : List ℕ)
    : Type 0 where
  pub long : length left ≡ width * (count - counter)
  pub written : size + all (count - counter) left ≡ all count bytes
  pub bound : size ≤ most * counter

pub counted_more : (width : ℕ) (one : List ℕ → ℕ) (all : ℕ → List ℕ → ℕ)
    (most count counter size more : ℕ) (bytes left later : List ℕ)
    → AreItems width one all → counter < count → later ≡ drop width left → more ≡ one left
    → more ≤ most → Counted width all most count counter size bytes left
    → Counted width all most count (counter + 1) (size + more) bytes later
counted_more width one all most count counter size more bytes left later are h next weighed fits c =
    let rest : ℕ = count - (counter + 1) in
    let e : count - counter ≡ suc rest = omega arith in
    let wide : width * suc rest ≡ width + width * rest = omega arith in
    let dropped = length-drop width left in
    let was : length left ≡ width * suc rest = c.long ∙ ap (λ (n : ℕ). width * n) e in
    let split : all (count - counter) left ≡ one left + all rest (drop width left) =
    ap (λ (n : ℕ). all n left) e ∙ are.more rest left in
    let told = c.written in
    let most_more : most * (counter + 1) ≡ most * counter + most = omega arith in
    let bound = c.bound in
    record {
      long = ap (λ (xs : List ℕ). length xs) next ∙ omega (arith, dropped, was, wide);
      written =
          ap (λ (xs : List ℕ). size + more + all rest xs) next
          ∙ omega (arith, split, told, weighed);
      bound = omega (arith, bound, fits, most_more);
    }
