-- What a read of the front of some bytes leaves.
use Rattle.std.proofs.Common.{◌≡◌, ℕ, ◌+◌, ◌-◌, ◌<◌, ◌≤◌, List, [], ◌∷◌, ◌++◌, length, min}
use Rattle.std.proofs.Common.{take, drop, refl, sym, ap, ◌∙◌, arith, take-append-drop}
use Rattle.std.proofs.Common.{length-take-le}
use Rattle.std.proofs.lemmas.List.{take-append-le, drop-drop, take_all, take_rest}

-- the front of a buffer into whose front n bytes were copied
take-copied : (n : ℕ) (rest buf : List ℕ) → n ≤ length rest
    → take n (take n rest ++ drop n buf) ≡ take n rest
take-copied n rest buf h =
    let len : length (take n rest) ≡ n = length-take-le n rest h in
    take-append-le n (take n rest) (drop n buf) (omega arith)
    ∙ take_all n (take n rest) (omega arith)

empty : (xs : List ℕ) → length xs ≡ 0 → xs ≡ []
empty [] h = refl
empty (x ∷ xs) h = absurd (omega arith)

-- n bytes were copied from place `at` of some items, and the place goes on by n
pub read_consumes : (items bytes buf new left : List ℕ) (at most n : ℕ)
    → items ≡ bytes
    → drop at bytes ≡ left
    → (0 < length buf → 0 < most)
    → n ≡ min most (min (length buf) (length (take (length items - at) (drop at items))))
    → new ≡ take n (take (length items - at) (drop at items)) ++ drop n buf
    → (left ≡ take n new ++ drop (at + n) bytes)
    × (n ≡ 0 → 0 < length new → drop (at + n) bytes ≡ [])
read_consumes items bytes buf new left at most n named is some count' copied' =
    (same, none)
  where
    whole : take (length items - at) (drop at items) ≡ drop at bytes
    whole = take_rest items at ∙ ap (drop at) named

    count : n ≡ min most (min (length buf) (length (drop at bytes)))
    count = rw whole at count'

    copied : new ≡ take n (drop at bytes) ++ drop n buf
    copied = rw whole at copied'

    rest : drop (at + n) bytes ≡ drop n (drop at bytes)
    rest = sym (drop-drop n at bytes)

    same : left ≡ take n new ++ drop (at + n) bytes
    same = sym is
        ∙ rw (copied, take-copied n (drop at bytes) buf (omega (arith, count)), rest)
        (sym (take-append-drop n (drop at bytes)))

    none : n ≡ 0 → 0 < length new → drop (at + n) bytes ≡ []
    none z l =
        let same_length : length new ≡ length buf = rw (copied, z) refl in
        let short : length (drop at bytes) ≡ 0 = omega (arith, count, some) in
        rest ∙ rw z (empty (drop at bytes) short)
