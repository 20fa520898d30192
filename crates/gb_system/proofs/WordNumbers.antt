-- Words are in the order of their numbers, and those with one number are one.
use Rattle.std.proofs.Common.{◌≡◌, ◌≢◌, ◌<◌, ◌≤◌, ◌-◌, ◌++◌, ℕ, zero, suc, true}
use Rattle.std.proofs.Common.{false, ◌⊎◌, inl, inr, leb, eqb, List, [], ◌∷◌, length, slice_index}
use Rattle.std.proofs.Common.{Less, Equal, Greater, eq-eqb, eqb-true, refl, sym, ap, take, ◌∙◌}
use Rattle.std.proofs.Common.{arith}
use Rattle.std.proofs.lemmas.Bool.Decides.{eqb_tells, leb_tells, nat_tests}
use Rattle.std.proofs.lemmas.List.{ext_get_or, get_or-append_right, get_or-replicate}
use Rattle.std.proofs.lemmas.List.{append-nil, get_or-take, get_or_append_left, get_or_past}
use Rattle.std.proofs.lemmas.List.{length-replicate}
use Rattle.std.specs.Cmp.{both_ways, nat_cmp_is}
use Rattle.std.specs.Cmp.Lexicographic.{bytes_decides, nat_list_cmp_total, slice_cmp}
use Rattle.std.specs.Int.{from_be_bytes, w128}
use Rattle.std.specs.List.{list_all}
use Rattle.std.specs.Ordering.{nat_cmp, ordering_reverse, ordering_then}
use Rattle.std.specs.Prelude.{replicate}
use Rattle.std.specs.Str.{bytes_eq}
use Rattle.std.specs.declared.cmp.Ordering.{Ordering}
use Rattle.gb_base.proofs.Names.{is_name-ascii}
use Rattle.gb_base.specs.Name.{is_name, is_name_byte, padded}
use Rattle.gb_system.specs.WordNumber.{IsNumberOf, word_number}

-- all items are bytes
abbrev AreBytes : List ℕ → Type 0
AreBytes word = (i : ℕ) → slice_index word i < 256

-- two words have the same bytes below a place
abbrev AreSame : List ℕ → List ℕ → ℕ → Type 0
AreSame xs ys n = (j : ℕ) → j < n → slice_index xs j ≡ slice_index ys j

-- where numbers are the same, so are the bytes
same_bytes : (n : ℕ) (xs ys : List ℕ) → AreBytes xs → AreBytes ys
    → word_number n xs ≡ word_number n ys → AreSame xs ys n
unfolding word_number
same_bytes zero xs ys bx by e = λ j less. absurd (omega (arith, less))
same_bytes (suc n) xs ys bx by e = λ j less.
    at j less (same_bytes n xs ys bx by (omega (arith, e, bx n, by n))) (eqb_tells j n)
  where
    at : (j : ℕ) → j < suc n → AreSame xs ys n
        → ((eqb j n ≡ true) × (j ≡ n)) ⊎ ((eqb j n ≡ false) × (j ≢ n))
        → slice_index xs j ≡ slice_index ys j
    at j less rest (inl p) =
        ap (slice_index xs) p.1 ∙ omega (arith, e, bx n, by n) ∙ ap (slice_index ys) (sym p.1)
    at j less rest (inr p) = rest j (omega (arith, less, p.1))

-- a byte of one word is less than that of another, and before it their bytes are the same
record Differ (xs ys : List ℕ) : Type 0 where
  at : ℕ
  same : AreSame xs ys at
  less : slice_index xs at < slice_index ys at

-- where a number is less, so is a byte
differ : (n : ℕ) (xs ys : List ℕ) → AreBytes xs → AreBytes ys
    → word_number n xs < word_number n ys → Differ xs ys
unfolding word_number
differ zero xs ys bx by h = absurd (omega (arith, h))
differ (suc n) xs ys bx by h =
    at (differ n xs ys bx by) (leb_tells (word_number n ys) (word_number n xs))
  where
    at : (word_number n xs < word_number n ys → Differ xs ys)
        → ((leb (word_number n ys) (word_number n xs) ≡ true)
        × (word_number n ys ≤ word_number n xs))
        ⊎ ((leb (word_number n ys) (word_number n xs) ≡ false)
        × (word_number n xs < word_number n ys))
        → Differ xs ys
    at rest (inl p) = record {
      at = n;
      same = same_bytes n xs ys bx by (omega (arith, h, p.1, bx n, by n));
      less = omega (arith, h, p.1, bx n, by n);
    }
    at rest (inr p) = rest p.1

-- the word with the lesser byte comes first
first : (n : ℕ) (xs ys : List ℕ) → AreSame xs ys n → slice_index xs n < slice_index ys n
    → slice_cmp nat_cmp xs ys ≡ Less
first n [] [] same less = absurd (omega (arith, less))
first n [] (y ∷ ys) same less = refl
first n (x ∷ xs) [] same less = absurd (omega (arith, less))
first zero (x ∷ xs) (y ∷ ys) same less =
    ap (λ o. ordering_then o (slice_cmp nat_cmp xs ys)) (sym (nat_cmp_is x y Less less))
first (suc n) (x ∷ xs) (y ∷ ys) same less =
    ap (λ o. ordering_then o (slice_cmp nat_cmp xs ys))
    (sym (nat_cmp_is x y Equal (same 0 (omega arith))))
    ∙ first n xs ys (λ j low. same (suc j) (omega (arith, low))) less

-- the order of two words is that of their numbers, where these differ
by_numbers : (xs ys : List ℕ) (a b : ℕ) → IsNumberOf a xs → IsNumberOf b ys → a ≢ b
    → nat_cmp a b ≡ slice_cmp nat_cmp xs ys
by_numbers xs ys a b x y apart = at (leb_tells a b)
  where
    at : ((leb a b ≡ true) × (a ≤ b)) ⊎ ((leb a b ≡ false) × (b < a))
        → nat_cmp a b ≡ slice_cmp nat_cmp xs ys
    at (inl p) =
        let d = differ 16 xs ys x.bytes y.bytes (omega (arith, x.is, y.is, p.1, apart)) in
        sym (nat_cmp_is a b Less (omega (arith, p.1, apart))) ∙ sym (first d.at xs ys d.same d.less)
    at (inr p) =
        let d = differ 16 ys xs y.bytes x.bytes (omega (arith, x.is, y.is, p.1)) in
        sym (nat_cmp_is a b Greater p.1)
        ∙ ap ordering_reverse (sym (first d.at ys xs d.same d.less))
        ∙ sym (nat_list_cmp_total.antisymm xs ys)

-- a byte of a name is no zero
named-byte : (w : List ℕ) (i : ℕ) → list_all is_name_byte w ≡ true → i < length w
    → 48 ≤ slice_index w i
named-byte [] i all less = absurd (omega arith)
named-byte (b ∷ w) zero all less = grind (arith, nat_tests)
named-byte (b ∷ w) (suc i) all less =
    named-byte w i (grind (arith, nat_tests)) (omega (arith, less))

-- where the bytes are the same, a name isn't longer than the other word
no-longer : (v w : List ℕ) → AreSame v w 16 → is_name w ≡ true → length w ≤ length v
no-longer v w same named = at (leb_tells (length w) (length v))
  where
    at : ((leb (length w) (length v) ≡ true) × (length w ≤ length v))
        ⊎ ((leb (length w) (length v) ≡ false) × (length v < length w))
        → length w ≤ length v
    at (inl p) = p.1
    at (inr p) =
        let all : list_all is_name_byte w ≡ true = grind (arith, nat_tests) in
        let most : length w ≤ 16 = grind (arith, nat_tests) in
        absurd (omega (
          arith,
          p.1,
          same (length v) (omega (arith, p.1, most)),
          get_or_past v (length v) 0 (omega arith),
          named-byte w (length v) all p.1,
        ))

-- Names with one number are one.
one-word : (v w : List ℕ) (m n : ℕ) → IsNumberOf m v → IsNumberOf n w → is_name v ≡ true
    → is_name w ≡ true → m ≡ n → v ≡ w
one-word v w m n x y named-v named-w e =
    let same = same_bytes 16 v w x.bytes y.bytes (sym x.is ∙ e ∙ y.is) in
    let most : length v ≤ 16 = grind (arith, nat_tests) in
    let long = no-longer v w same named-w in
    let short = no-longer w v (λ j less. sym (same j less)) named-v in
    ext_get_or 0 v w (omega (arith, long, short)) (λ i less. same i (omega (arith, less, most)))

-- Two names have one number exactly where they are one.
pub same-words : (v w : List ℕ) (m n : ℕ) → IsNumberOf m v → IsNumberOf n w → is_name v ≡ true
    → is_name w ≡ true → eqb m n ≡ bytes_eq v w
same-words v w m n x y named-v named-w =
    both_ways (eqb m n) (bytes_eq v w)
    (λ t. (bytes_decides v w).1 (one-word v w m n x y named-v named-w (eqb-true m n t)))
    (λ t. eq-eqb m n (x.is ∙ ap (word_number 16) ((bytes_decides v w).0 t) ∙ sym y.is))

-- what is its own reverse is a tie
tied : (o : Ordering) → o ≡ ordering_reverse o → o ≡ Equal
tied Less e = search
tied Equal e = refl
tied Greater e = search

-- Two names are in the order of their numbers.
pub by-words : (v w : List ℕ) (m n : ℕ) → IsNumberOf m v → IsNumberOf n w → is_name v ≡ true
    → is_name w ≡ true → nat_cmp m n ≡ slice_cmp nat_cmp v w
by-words v w m n x y named-v named-w = at (eqb_tells m n)
  where
    at : ((eqb m n ≡ true) × (m ≡ n)) ⊎ ((eqb m n ≡ false) × (m ≢ n))
        → nat_cmp m n ≡ slice_cmp nat_cmp v w
    at (inl p) =
        sym (nat_cmp_is m n Equal p.1)
        ∙ sym (tied (slice_cmp nat_cmp v v) (nat_list_cmp_total.antisymm v v))
        ∙ ap (slice_cmp nat_cmp v) (one-word v w m n x y named-v named-w p.1)
    at (inr p) = by_numbers v w m n x y p.1

-- ---- zeros behind a word

zeros : (n i : ℕ) → slice_index (replicate n 0) i ≡ 0
zeros n i = at (leb_tells n i)
  where
    at : ((leb n i ≡ true) × (n ≤ i)) ⊎ ((leb n i ≡ false) × (i < n))
        → slice_index (replicate n 0) i ≡ 0
    at (inl p) = get_or_past (replicate n 0) i 0 (omega (arith, length-replicate {A = ℕ} n 0, p.1))
    at (inr p) = get_or-replicate n i 0 0 p.1

-- they read as what is past its end
pub of-padded : (w : List ℕ) (i : ℕ) → slice_index (padded w) i ≡ slice_index w i
of-padded w i = at (leb_tells (length w) i)
  where
    more : List ℕ
    more = replicate (16 - length w) 0

    at : ((leb (length w) i ≡ true) × (length w ≤ i))
        ⊎ ((leb (length w) i ≡ false) × (i < length w))
        → slice_index (padded w) i ≡ slice_index w i
    at (inl p) =
        get_or-append_right w more (length w) i 0 refl p.1
        ∙ zeros (16 - length w) (i - length w)
        ∙ sym (get_or_past w i 0 p.1)
    at (inr p) = get_or_append_left w more 0 i p.1

-- ---- a number is made

-- with a byte in front too
pub of-led : (who : ℕ) (w places : List ℕ) (i : ℕ) → places ≡ padded w
    → slice_index (who ∷ places) i ≡ slice_index (who ∷ w) i
of-led who w places zero is = refl
of-led who w places (suc i) is = ap (λ ps. slice_index ps i) is ∙ of-padded w i

-- where a byte is put in front of the first 15
pub of-front : (who : ℕ) (w front : List ℕ) (i : ℕ) → front ≡ take 15 w → i < 16
    → slice_index (who ∷ (front ++ [])) i ≡ slice_index (who ∷ w) i
of-front who w front zero is less = refl
of-front who w front (suc i) is less =
    ap (λ xs. slice_index xs i) (append-nil front ∙ is)
    ∙ get_or-take 15 w i 0 (omega (arith, less))

-- the number of 16 bytes, the first being the most significant
pub of-digits : (digits word : List ℕ)
    → ((i : ℕ) → i < 16 → slice_index digits i ≡ slice_index word i)
    → from_be_bytes w128 digits ≡ word_number 16 word
unfolding word_number
of-digits digits word same =
    omega (
      arith,
      same 0 (omega arith),
      same 1 (omega arith),
      same 2 (omega arith),
      same 3 (omega arith),
      same 4 (omega arith),
      same 5 (omega arith),
      same 6 (omega arith),
      same 7 (omega arith),
      same 8 (omega arith),
      same 9 (omega arith),
      same 10 (omega arith),
      same 11 (omega arith),
      same 12 (omega arith),
      same 13 (omega arith),
      same 14 (omega arith),
      same 15 (omega arith),
    )

-- the number of a word with zeros behind it
pub of-places : (w places : List ℕ) (n : ℕ) → places ≡ padded w → is_name w ≡ true
    → n ≡ from_be_bytes w128 places → IsNumberOf n w
of-places w places n are named is = record {
  is = is ∙ of-digits places w (λ i less. ap (λ ps. slice_index ps i) are ∙ of-padded w i);
  bytes = λ i. omega (arith, is_name-ascii w named i);
}
