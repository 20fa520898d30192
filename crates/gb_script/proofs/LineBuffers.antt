-- What is kept of a line.
use Rattle.std.proofs.Common.{◌≡◌, ◌≢◌, ℕ, ◌+◌, ◌-◌, ◌<◌, ◌≤◌, ◌==◌, nat_lt, Bool, true, false}
use Rattle.std.proofs.Common.{cond, List, [], ◌∷◌, ◌++◌, length, get_or, take, length-append, min}
use Rattle.std.proofs.Common.{append-nil}
use Rattle.std.proofs.Common.{refl, sym, ap, ◌∙◌, arith}
use Rattle.std.specs.Prelude.{slice_index}
use Rattle.std.proofs.lemmas.List.{get_or-take, length-take, length-take-le, take-take}
use Rattle.std.proofs.lemmas.List.{take_all, take_at, take-append-le}
use Rattle.std.proofs.Math.Seq.{take-append-add}
use Rattle.std.proofs.lemmas.Bool.Decides.{nat_tests}
use Rattle.gb_formats.specs.Lines.{without_cr}
use Rattle.gb_script.specs.LineBuffers.{HoldsLine, HoldsText, is_long_text, longest_text}
use Rattle.gb_script.specs.declared.line_buffer.LineBuffer.{LineBuffer}

-- tests of numbers
eqb-no : (a b : ℕ) → a ≢ b → (a == b) ≡ false
eqb-no a b h = grind (arith, nat_tests)

less-is : (a b : ℕ) → a < b → nat_lt a b ≡ true
less-is a b h = grind (arith, nat_tests)

-- a front of a line that is all of it
pub all-kept : (bytes raw : List ℕ) (size n : ℕ)
    → size ≡ length raw → size ≤ n → take size bytes ≡ take n raw
    → take size bytes ≡ raw
all-kept bytes raw size n s within kept = kept ∙ take_all n raw (omega (arith, s, within))

-- as many of these bytes as fit, before what is left of the buffer
fitting : (more rest : List ℕ) (m : ℕ) → min (length more) m + length rest ≡ m
    → take (length more) (take (min (length more) m) more ++ rest) ≡ take m more
fitting more [] m fills =
    ap (take (length more)) (append-nil (take (min (length more) m) more))
    ∙ take_all (length more) (take (min (length more) m) more)
    (omega (arith, length-take (min (length more) m) more))
    ∙ ap (λ k. take k more) (omega (arith, fills))
fitting more (r ∷ rs) m fills =
    let all : length more ≤ m = omega (arith, fills) in
    ap (λ k. take (length more) (k ++ r ∷ rs))
    (take_all (min (length more) m) more (omega (arith, fills)))
    ∙ take_at more (r ∷ rs) (length more) refl
    ∙ sym (take_all m more all)

-- bytes of which some are kept: `rest` and `tail` are what was in the buffer before
pub append-in : (bytes raw more rest tail : List ℕ) (size n len : ℕ) → size ≡ length raw → len ≡ n
    → size < n → take size bytes ≡ take n raw
    → min (length more) (n - size) + length rest + size ≡ n
    → take (size + length more) (take len
    ((take size bytes ++ (take (min (length more) (n - size)) more ++ rest)) ++ tail))
    ≡ take n (raw ++ more)
append-in bytes raw more rest tail size n len s l less kept fills =
    let copied = take (min (length more) (n - size)) more in
    let front : take size bytes ≡ raw =
    all-kept bytes raw size n s (omega (arith, less)) kept in
    let long : length (raw ++ (copied ++ rest)) ≡ len =
    rw (
      length-append raw (copied ++ rest),
      length-append copied rest,
      length-take (min (length more) (n - size)) more,
    ) (omega (arith, s, l, less, fills)) in
    ap (λ k. take (size + length more) (take len ((k ++ (copied ++ rest)) ++ tail))) front
    ∙ ap (take (size + length more)) (take_at (raw ++ (copied ++ rest)) tail len long)
    ∙ ap (λ k. take (k + length more) (raw ++ (copied ++ rest))) s
    ∙ take-append-add raw (copied ++ rest) (length more)
    ∙ ap (λ k. raw ++ k) (fitting more rest (n - size) (omega (arith, fills, less)))
    ∙ sym (take-append-add raw more (n - size))
    ∙ ap (λ k. take k (raw ++ more)) (omega (arith, s, less))

-- bytes that aren't
pub append-out : (bytes raw more : List ℕ) (size n : ℕ) → size ≡ length raw → length bytes ≡ n
    → n ≤ size → take size bytes ≡ take n raw
    → take (size + length more) bytes ≡ take n (raw ++ more)
append-out bytes raw more size n s l out kept =
    take_all (size + length more) bytes (omega (arith, l, out))
    ∙ sym (take_all size bytes (omega (arith, l, out)))
    ∙ kept ∙ sym (take-append-le n raw more (omega (arith, s, out)))

-- what is handed out of all that came
text-kept : (bytes raw : List ℕ) (size m n : ℕ) → m ≤ n → take size bytes ≡ take n raw
    → take m (take size bytes) ≡ take m raw
text-kept bytes raw size m n less kept = ap (take m) kept ∙ take-take m n raw less

pub as-text : (b : LineBuffer) (raw : List ℕ) → HoldsLine b raw → HoldsText b raw
as-text b raw h = record {
  long = ap (nat_lt longest_text) h.size_is;
  text = text-kept b.bytes.items raw b.size 8192 8193 (omega arith) h.kept;
}

-- ---- a CR at the end

last-byte : (bytes raw : List ℕ) (size n : ℕ) → size ≡ length raw → 0 < size → size ≤ n
    → take size bytes ≡ take n raw → slice_index raw (length raw - 1) ≡ get_or bytes (size - 1) 0
last-byte bytes raw size n s some within kept =
    ap (λ r. get_or raw r 0) (omega (arith, s))
    ∙ ap (λ r. get_or r (size - 1) 0) (sym (all-kept bytes raw size n s within kept))
    ∙ get_or-take size bytes (size - 1) 0 (omega arith)

pub with-cr : (raw : List ℕ) → slice_index raw (length raw - 1) ≡ 13
    → without_cr raw ≡ take (length raw - 1) raw
with-cr raw e = ap (λ b. cond (b == 13) (take (length raw - 1) raw) raw) e

pub with-none : (raw : List ℕ) → slice_index raw (length raw - 1) ≢ 13 → without_cr raw ≡ raw
with-none raw e =
    ap (λ t. cond t (take (length raw - 1) raw) raw)
    (eqb-no (slice_index raw (length raw - 1)) 13 e)

-- the CR is dropped
pub cr-dropped : (bytes raw : List ℕ) (size : ℕ) → size ≡ length raw → 0 < size → size ≤ 8193
    → take size bytes ≡ take 8193 raw → get_or bytes (size - 1) 0 ≡ 13
    → (nat_lt longest_text (size - 1) ≡ is_long_text (without_cr raw))
    × (take longest_text (take (size - 1) bytes) ≡ take longest_text (without_cr raw))
cr-dropped bytes raw size s some within kept last =
    let cut = with-cr raw (last-byte bytes raw size 8193 s some within kept ∙ last) in
    let same : take (size - 1) bytes ≡ without_cr raw =
    sym (take-take (size - 1) size bytes (omega arith))
    ∙ ap (take (size - 1)) (all-kept bytes raw size 8193 s within kept)
    ∙ ap (λ k. take k raw) (omega (arith, s)) ∙ sym cut in (
      ap (nat_lt longest_text)
          (omega (arith, s)
          ∙ sym (length-take-le (length raw - 1) raw (omega arith))
          ∙ ap length (sym cut)),
      ap (take longest_text) same,
    )

-- there is none
pub none-dropped : (bytes raw : List ℕ) (size : ℕ) → size ≡ length raw → 0 < size → size ≤ 8193
    → take size bytes ≡ take 8193 raw → get_or bytes (size - 1) 0 ≢ 13 → without_cr raw ≡ raw
none-dropped bytes raw size s some within kept last =
    with-none raw (λ e. last (sym (last-byte bytes raw size 8193 s some within kept) ∙ e))

pub no-byte : (raw : List ℕ) → 0 ≡ length raw → without_cr raw ≡ raw
no-byte [] e = refl
no-byte (b ∷ bs) e = absurd (omega (arith, e))

-- a line that is too long either way
cr-beyond : (raw : List ℕ) (t : Bool) → 8193 < length raw
    → (true ≡ is_long_text (cond t (take (length raw - 1) raw) raw))
    × (take longest_text raw ≡ take longest_text (cond t (take (length raw - 1) raw) raw))
cr-beyond raw true more = (
  sym (less-is 8192 (length (take (length raw - 1) raw))
      (omega (arith, length-take-le (length raw - 1) raw (omega arith)))),
  sym (take-take 8192 (length raw - 1) raw (omega arith)),
)
cr-beyond raw false more = (sym (less-is 8192 (length raw) (omega arith)), refl)

pub beyond : (bytes raw : List ℕ) (size : ℕ) → size ≡ length raw → 8193 < size
    → take size bytes ≡ take 8193 raw
    → (nat_lt longest_text size ≡ is_long_text (without_cr raw))
    × (take longest_text (take size bytes) ≡ take longest_text (without_cr raw))
beyond bytes raw size s more kept =
    let h = cr-beyond raw (slice_index raw (length raw - 1) == 13) (omega (arith, s)) in (
      less-is 8192 size (omega arith) ∙ h.0,
      text-kept bytes raw size 8192 8193 (omega arith) kept ∙ h.1,
    )

-- ---- what is handed out

pub all-text : (bytes : List ℕ) (size m : ℕ) → size ≤ m → take size bytes ≡ take m (take size bytes)
all-text bytes size m less =
    sym (take_all m (take size bytes) (omega (arith, length-take size bytes, less)))

pub first-text : (bytes : List ℕ) (size m : ℕ) → m ≤ size → take m bytes ≡ take m (take size bytes)
first-text bytes size m more = sym (take-take m size bytes more)
