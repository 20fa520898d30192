-- What is found by number in the entries of places.
use Rattle.std.proofs.Common.{◌≡◌, ◌≢◌, ◌<◌, ◌≤◌, ◌+◌, ◌-◌, ℕ, zero, suc, ◌⊎◌, inl, inr, Option}
use Rattle.std.proofs.Common.{Some, None, List, [], ◌∷◌, ◌++◌, length, slice_set, true, false, cond}
use Rattle.std.proofs.Common.{eqb, is_some, option_map, drop, refl, sym, ap, subst, ◌∙◌, arith}
use Rattle.std.proofs.lemmas.Bool.Decides.{nat_tests}
use Rattle.std.proofs.lemmas.List.{append-nil, append_assoc, drop_all, length-append}
use Rattle.std.specs.List.{AllByRecursion, IsDistinct}
use Rattle.std.specs.Map.{keys_of}
use Rattle.gb_table.specs.Table.{Puts, entries_from, item_at, item_in}

same-number : (m n : ℕ) → m ≡ n → eqb m n ≡ true
same-number m n e = grind (arith, nat_tests)

other-number : (m n : ℕ) → m ≢ n → eqb m n ≡ false
other-number m n ne = grind (arith, nat_tests)

-- nothing is found below the first
pub below : {X : Type 0} (m n : ℕ) (places : List (Option X)) → m < n
    → item_at (entries_from n places) m ≡ None
below m n [] less = refl
below m n (None ∷ places) less = below m (n + 1) places (omega arith)
below m n (Some x ∷ places) less =
    ap (λ t. cond t (Some x) (item_at (entries_from (n + 1) places) m))
    (other-number m n (λ e. absurd (omega arith)))
    ∙ below m (n + 1) places (omega arith)

-- and from there on what stands at the place
pub inside : {X : Type 0} (n i : ℕ) (places : List (Option X))
    → item_at (entries_from n places) (n + i) ≡ item_in places i
inside n i [] = refl
inside n zero (None ∷ places) = below (n + 0) (n + 1) places (omega arith)
inside n zero (Some x ∷ places) =
    ap (λ t. cond t (Some x) (item_at (entries_from (n + 1) places) (n + 0)))
    (same-number (n + 0) n (omega arith))
inside n (suc i) (None ∷ places) =
    ap (item_at (entries_from (n + 1) places)) (let e : n + suc i ≡ n + 1 + i = omega arith in e)
    ∙ inside (n + 1) i places
inside n (suc i) (Some x ∷ places) =
    ap (λ t. cond t (Some x) (item_at (entries_from (n + 1) places) (n + suc i)))
    (other-number (n + suc i) n (λ e. absurd (omega arith)))
    ∙ ap (item_at (entries_from (n + 1) places)) (let e : n + suc i ≡ n + 1 + i = omega arith in e)
    ∙ inside (n + 1) i places

-- from there on what stands at the place of a number
pub beyond : {X : Type 0} (n m : ℕ) (places : List (Option X)) → n ≤ m
    → item_at (entries_from n places) m ≡ item_in places (m - n)
beyond n m places within =
    ap (item_at (entries_from n places)) (let e : m ≡ n + (m - n) = omega arith in e)
    ∙ inside n (m - n) places

-- where something stands there is a place
pub has-place : {X : Type 0} (places : List (Option X)) (i : ℕ)
    → is_some (item_in places i) ≡ true → i < length places
has-place [] i e = absurd (cc e)
has-place (o ∷ places) zero e = omega arith
has-place (o ∷ places) (suc i) e = let less = has-place places i e in omega (arith, less)

-- ---- one place has something else

set-here : {X : Type 0} (places : List (Option X)) (i : ℕ) (w : Option X) → i < length places
    → item_in (slice_set places i w) i ≡ w
set-here [] i w less = absurd (omega (arith, less))
set-here (o ∷ places) zero w less = refl
set-here (o ∷ places) (suc i) w less = set-here places i w (omega (arith, less))

set-others : {X : Type 0} (places : List (Option X)) (i j : ℕ) (w : Option X) → j ≢ i
    → item_in (slice_set places i w) j ≡ item_in places j
set-others [] i j w ne = refl
set-others (o ∷ places) zero zero w ne = absurd (ne refl)
set-others (o ∷ places) zero (suc j) w ne = refl
set-others (o ∷ places) (suc i) zero w ne = refl
set-others (o ∷ places) (suc i) (suc j) w ne = set-others places i j w (λ e. ne (ap suc e))

puts : {X : Type 0} (n m : ℕ) (places : List (Option X)) (w : Option X) → n ≤ m
    → m - n < length places
    → Puts (item_at (entries_from n places)) (item_at (entries_from n (slice_set places (m - n) w)))
    m w
puts n m places w within inside_of = record {
  here = beyond n m (slice_set places (m - n) w) within ∙ set-here places (m - n) w inside_of;
  others = λ q ne. by q ne (split q n);
}
  where
    split : (a b : ℕ) → (a < b) ⊎ (b ≤ a)
    split a b = grind (arith, nat_tests)

    by : (q : ℕ) → q ≢ m → (q < n) ⊎ (n ≤ q)
        → item_at (entries_from n (slice_set places (m - n) w)) q
        ≡ item_at (entries_from n places) q
    by q ne (inl less) =
        below q n (slice_set places (m - n) w) less ∙ sym (below q n places less)
    by q ne (inr more) =
        beyond n q (slice_set places (m - n) w) more
        ∙ set-others places (m - n) (q - n) w (λ e. ne (omega (arith, e, within, more)))
        ∙ sym (beyond n q places more)

-- ---- what contracts see

pub seen-below : {X : Type 0} (m n : ℕ) (places : List (Option X)) (es : List (ℕ × X))
    → entries_from n places ≡ es → m < n → item_at es m ≡ None
seen-below m n places es is less = ap (λ fs. item_at fs m) (sym is) ∙ below m n places less

pub seen-at : {X : Type 0} (n m : ℕ) (places : List (Option X)) (es : List (ℕ × X))
    → entries_from n places ≡ es → n ≤ m → item_at es m ≡ item_in places (m - n)
seen-at n m places es is within = ap (λ fs. item_at fs m) (sym is) ∙ beyond n m places within

pub puts-at : {X : Type 0} (n m : ℕ) (places : List (Option X)) (es : List (ℕ × X))
    (w : Option X) → entries_from n places ≡ es → n ≤ m → m - n < length places
    → Puts (item_at es) (item_at (entries_from n (slice_set places (m - n) w))) m w
puts-at n m places es w is within there =
    subst (λ fs. Puts (item_at fs) (item_at (entries_from n (slice_set places (m - n) w))) m w) is
    (puts n m places w within there)

pub none-from : {X : Type 0} (o : Option X) → is_some o ≡ false → o ≡ None
none-from None e = refl
none-from (Some x) e = absurd (cc e)

-- nothing changes where nothing is there
pub stays : {X : Type 0} (f : ℕ → Option X) (n : ℕ) (w : Option X) → f n ≡ w → Puts f f n w
stays f n w e = record { here = e; others = λ q ne. refl }

pub nowhere : {X : Type 0} (o : Option X) (x : X) → o ≡ None → o ≡ option_map (λ old. x) o
nowhere o x e = e ∙ ap (option_map (λ old. x)) (sym e)

-- what is there is replaced
pub replaces : {X : Type 0} (n m : ℕ) (places : List (Option X)) (es : List (ℕ × X)) (x : X)
    → entries_from n places ≡ es → n ≤ m → is_some (item_in places (m - n)) ≡ true
    → Puts (item_at es) (item_at (entries_from n (slice_set places (m - n) (Some x)))) m
    (option_map (λ old. x) (item_at es m))
replaces {X} n m places es x is within there =
    subst
    (λ w. Puts (item_at es) (item_at (entries_from n (slice_set places (m - n) (Some x)))) m w)
    (sym (mapped (item_at es m) (ap is_some (seen-at n m places es is within) ∙ there)))
    (puts-at n m places es (Some x) is within (has-place places (m - n) there))
  where
    mapped : (o : Option X) → is_some o ≡ true → option_map (λ old. x) o ≡ Some x
    mapped None e = absurd (cc e)
    mapped (Some y) e = refl

-- ---- places come and go at the ends

pub longer : {X : Type 0} (n : ℕ) (places : List (Option X))
    → entries_from n (places ++ None ∷ []) ≡ entries_from n places
longer n [] = refl
longer n (None ∷ places) = longer (n + 1) places
longer n (Some x ∷ places) = ap (λ es. (n, x) ∷ es) (longer (n + 1) places)

-- what is put behind all places
set-last : {X : Type 0} (places : List (Option X)) (w : Option X)
    → slice_set (places ++ None ∷ []) (length places) w ≡ places ++ w ∷ []
set-last [] w = refl
set-last (o ∷ places) w = ap (λ os. o ∷ os) (set-last places w)

pub puts-last : {X : Type 0} (n m : ℕ) (places : List (Option X)) (es : List (ℕ × X))
    (w : Option X) → entries_from n places ≡ es → n ≤ m → m - n ≡ length places
    → Puts (item_at es) (item_at (entries_from n (places ++ w ∷ []))) m w
puts-last n m places es w is within last =
    subst (λ os. Puts (item_at es) (item_at (entries_from n os)) m w)
    (ap (λ i. slice_set (places ++ None ∷ []) i w) last ∙ set-last places w)
    (puts-at n m (places ++ None ∷ []) es w (longer n places ∙ is) within
    (omega (arith, last, length-append places (None ∷ []))))

-- ---- no number stands twice

apart : {X : Type 0} (m n : ℕ) (places : List (Option X)) → m < n
    → AllByRecursion (λ k. eqb m k ≡ false) (keys_of (entries_from n places))
apart m n [] less = tt
apart m n (None ∷ places) less = apart m (n + 1) places (omega arith)
apart m n (Some x ∷ places) less = (
  other-number m n (λ e. absurd (omega arith)),
  apart m (n + 1) places (omega arith),
)

pub distinct : {X : Type 0} (n : ℕ) (places : List (Option X))
    → IsDistinct eqb (keys_of (entries_from n places))
unfolding IsDistinct
distinct n [] = tt
distinct n (None ∷ places) = distinct (n + 1) places
distinct n (Some x ∷ places) = (apart n (n + 1) places (omega arith), distinct (n + 1) places)

-- ---- places one after the other

pub each-place : {X : Type 0} (n i : ℕ) (places : List (Option X)) → i < length places
    → entries_from (n + i) (drop i places)
    ≡ entries_from (n + i) (item_in places i ∷ []) ++ entries_from (n + suc i) (drop (suc i) places)
each-place n i [] less = absurd (omega (arith, less))
each-place n zero (None ∷ places) less =
    ap (λ k. entries_from k places) (let same : n + 0 + 1 ≡ n + 1 = omega arith in same)
each-place n zero (Some x ∷ places) less =
    ap (λ k. (n + 0, x) ∷ entries_from k places)
    (let same : n + 0 + 1 ≡ n + 1 = omega arith in same)
each-place n (suc i) (o ∷ places) less =
    ap (λ k. entries_from k (drop i places))
    (let same : n + suc i ≡ n + 1 + i = omega arith in same)
    ∙ each-place (n + 1) i places (omega (arith, less))
    ∙ ap (λ k. entries_from k (item_in places i ∷ [])
    ++ entries_from (n + 1 + suc i) (drop (suc i) places))
    (let same : n + 1 + i ≡ n + suc i = omega arith in same)
    ∙ ap (λ k. entries_from (n + suc i) (item_in places i ∷ [])
    ++ entries_from k (drop (suc i) places))
    (let same : n + 1 + suc i ≡ n + suc (suc i) = omega arith in same)

pub listed : {X : Type 0} (n i k : ℕ) (places : List (Option X)) (old new all : List (ℕ × X))
    → k ≡ suc i → i < length places → new ≡ old ++ entries_from (n + i) (item_in places i ∷ [])
    → old ++ entries_from (n + i) (drop i places) ≡ all
    → new ++ entries_from (n + k) (drop k places) ≡ all
listed n i k places old new all next less is e =
    ap (λ j. new ++ entries_from (n + j) (drop j places)) next
    ∙ ap (λ es. es ++ entries_from (n + suc i) (drop (suc i) places)) is
    ∙ append_assoc old (entries_from (n + i) (item_in places i ∷ []))
    (entries_from (n + suc i) (drop (suc i) places))
    ∙ ap (λ es. old ++ es) (sym (each-place n i places less)) ∙ e

pub all-listed : {X : Type 0} (n i : ℕ) (places : List (Option X)) (es all : List (ℕ × X))
    → length places ≤ i → es ++ entries_from (n + i) (drop i places) ≡ all → es ≡ all
all-listed n i places es all past e =
    sym (append-nil es)
    ∙ ap (λ ps. es ++ entries_from (n + i) ps) (sym (drop_all i places past))
    ∙ e
