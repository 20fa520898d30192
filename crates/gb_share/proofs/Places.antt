-- What passes have done, as histories grow and passes are joined.
use Rattle.std.proofs.Common.{◌≡◌, ◌≢◌, ℕ, zero, suc, ◌+◌, ◌<◌, ◌≤◌, Bool, true, false}
use Rattle.std.proofs.Common.{List, [], ◌∷◌, ◌++◌, length, refl, sym, ap, ◌∙◌, arith, append_assoc}
use Rattle.std.proofs.Common.{⊎_elim}
use Rattle.std.proofs.lemmas.Bool.{cases_lt}
use Rattle.std.proofs.lemmas.Bool.Decides.{nat_tests}
use Rattle.std.proofs.lemmas.List.{append-nil, length-append}
use Rattle.std.specs.Prelude.{◌==◌, ◌&&◌, ◌||◌, if◌then◌else◌}
use mathlib.Core.List.{IsPrefix}
use Rattle.gb_base.specs.declared.event.Event.{Event}
use Rattle.gb_base.specs.declared.journal.JournalEntry.{JournalEntry}
use Rattle.gb_desk.specs.Rules.{once_below}
use Rattle.gb_desk.specs.Slots.{hit, times}
use Rattle.gb_share.specs.Doing.{done_from, events_by, one_if, stands_in, tagged}

-- ---- places

or_assoc : (a b c : Bool) → (a || (b || c)) ≡ ((a || b) || c)
or_assoc true b c = refl
or_assoc false b c = refl

pub stands_append : (n : ℕ) (xs ys : List ℕ)
    → stands_in n (xs ++ ys) ≡ (stands_in n xs || stands_in n ys)
stands_append n [] ys = refl
stands_append n (x ∷ xs) ys =
    ap (λ b. x == n || b) (stands_append n xs ys)
    ∙ or_assoc (x == n) (stands_in n xs) (stands_in n ys)

or_false : (a b : Bool) → b ≡ false → (a || (b || false)) ≡ a
or_false true b is = refl
or_false false b is = ap (λ x. x || false) is

-- a new place makes no difference to the others
pub new_place : (n : ℕ) (ms : List ℕ) (k : ℕ) → k ≢ n
    → stands_in n (ms ++ k ∷ []) ≡ stands_in n ms
new_place n ms k apart =
    stands_append n ms (k ∷ []) ∙ or_false (stands_in n ms) (k == n) (grind (arith, nat_tests))

some_step : (b : Bool) (t : ℕ) (s : Bool) → (0 < t → s ≡ true)
    → 0 < (if b then 1 else 0) + t → (b || s) ≡ true
some_step true t s later some = refl
some_step false t s later some = later (omega arith)

pub some_stands : (n : ℕ) (ms : List ℕ) → 0 < times n ms → stands_in n ms ≡ true
some_stands n [] some = absurd (omega arith)
some_stands n (m ∷ ms) some =
    some_step (m == n) (times n ms) (stands_in n ms) (some_stands n ms) some

none_step : (b : Bool) (t : ℕ) (s : Bool) → (t ≡ 0 → s ≡ false)
    → (if b then 1 else 0) + t ≡ 0 → (b || s) ≡ false
none_step true t s later none = absurd (omega arith)
none_step false t s later none = later (omega arith)

pub none_stands : (n : ℕ) (ms : List ℕ) → times n ms ≡ 0 → stands_in n ms ≡ false
none_stands n [] none = refl
none_stands n (m ∷ ms) none =
    none_step (m == n) (times n ms) (stands_in n ms) (none_stands n ms) none

pub once_low : (n k : ℕ) → n < k → 0 < once_below n k
once_low n zero low = absurd (omega arith)
once_low n (suc k) low =
    ⊎_elim
    (λ (below : n < k). (let later = once_low n k below in omega arith))
    (λ (at : k ≤ n). (let same : k ≡ n = omega arith in
    let one : hit n k ≡ 1 = grind (arith, nat_tests) in omega arith))
    (cases_lt n k)

pub once_high : (n k : ℕ) → k ≤ n → once_below n k ≡ 0
once_high n zero high = refl
once_high n (suc k) high =
    let none : hit n k ≡ 0 = grind (arith, nat_tests) in
    let later = once_high n k (omega arith) in omega arith

-- ---- histories that grow

-- nothing was done where no place is
pub none_from : (r : ℕ) (mine : List ℕ) (n : ℕ) (es : List JournalEntry)
    → ((m : ℕ) → n ≤ m → stands_in m mine ≡ false) → done_from r mine n es ≡ []
none_from r mine n [] none = refl
none_from r mine n (e ∷ es) none =
    rw (none n (omega arith)) (none_from r mine (n + 1) es (λ m le. none m (omega arith)))

pub append_from : (r : ℕ) (mine : List ℕ) (n : ℕ) (xs ys : List JournalEntry)
    → done_from r mine n (xs ++ ys) ≡ done_from r mine n xs ++ done_from r mine (n + length xs) ys
append_from r mine n [] ys = ap (λ k. done_from r mine k ys) (omega arith)
append_from r mine n (x ∷ xs) ys =
    let head = one_if (stands_in n mine && x.by == r) x.event in
    let at : n + 1 + length xs ≡ n + length (x ∷ xs) = omega arith in
    ap (λ es. head ++ es) (append_from r mine (n + 1) xs ys
    ∙ ap (λ k. done_from r mine (n + 1) xs ++ done_from r mine k ys) at)
    ∙ sym (append_assoc head (done_from r mine (n + 1) xs)
    (done_from r mine (n + length (x ∷ xs)) ys))

-- a longer history has no more of these places
pub longer_same : (r : ℕ) (mine : List ℕ) (xs ys : List JournalEntry) → IsPrefix xs ys
    → ((m : ℕ) → length xs ≤ m → stands_in m mine ≡ false)
    → done_from r mine 0 ys ≡ done_from r mine 0 xs
longer_same r mine xs ys p within =
    ap (λ es. done_from r mine 0 es) (sym p.1)
    ∙ (append_from r mine 0 xs p.0
    ∙ (ap (λ es. done_from r mine 0 xs ++ es)
    (none_from r mine (0 + length xs) p.0 (λ m le. within m (omega arith)))
    ∙ append-nil (done_from r mine 0 xs)))

pub longer_length : (xs ys : List JournalEntry) → IsPrefix xs ys → length xs ≤ length ys
longer_length xs ys p =
    let long = ap (λ (es : List JournalEntry). length es) p.1 in
    omega (arith, length-append xs p.0)

-- other places make no difference
pub same_from : (r : ℕ) (ms ks : List ℕ) (n : ℕ) (es : List JournalEntry) (top : ℕ)
    → n + length es ≤ top → ((m : ℕ) → m < top → stands_in m ks ≡ stands_in m ms)
    → done_from r ks n es ≡ done_from r ms n es
same_from r ms ks n [] top le same = refl
same_from r ms ks n (e ∷ es) top le same =
    ap (λ b. one_if (b && e.by == r) e.event ++ done_from r ks (n + 1) es) (same n (omega arith))
    ∙ ap (λ l. one_if (stands_in n ms && e.by == r) e.event ++ l)
    (same_from r ms ks (n + 1) es top (omega arith) same)

one_tagged : (b : Bool) (x : Event) → one_if b x ++ [] ≡ (if b then x ∷ [] else [])
one_tagged true x = refl
one_tagged false x = refl

or_true : (a b : Bool) → b ≡ true → (a || (b || false)) ≡ true
or_true true b is = refl
or_true false b is = ap (λ x. x || false) is

-- one entry more, at a new place
pub entered_from : (r : ℕ) (mine : List ℕ) (before : List JournalEntry) (e : JournalEntry)
    → ((m : ℕ) → length before ≤ m → stands_in m mine ≡ false)
    → done_from r (mine ++ length before ∷ []) 0 (before ++ e ∷ [])
    ≡ done_from r mine 0 before ++ tagged e.by (e.event ∷ []) r
entered_from r mine before e within =
    let mine' = mine ++ length before ∷ [] in
    let old : done_from r mine' 0 before ≡ done_from r mine 0 before =
    same_from r mine mine' 0 before (length before) (omega arith) (λ m low.
    new_place m mine (length before) (λ at. omega arith)) in
    let there : stands_in (0 + length before) mine' ≡ true =
    stands_append (0 + length before) mine (length before ∷ [])
    ∙ or_true (stands_in (0 + length before) mine) (length before == 0 + length before)
    (grind (arith, nat_tests)) in
    let new : done_from r mine' (0 + length before) (e ∷ []) ≡ tagged e.by (e.event ∷ []) r =
    ap (λ b. one_if (b && e.by == r) e.event ++ []) there ∙ one_tagged (e.by == r) e.event in
    append_from r mine' 0 before (e ∷ [])
    ∙ (ap (λ l. l ++ done_from r mine' (0 + length before) (e ∷ [])) old
    ∙ ap (λ l. done_from r mine 0 before ++ l) new)

-- ---- two passes

one_joined : (s t b : Bool) (x : Event) (rest : List Event) → one_if (t && b) x ++ rest ≡ []
    → (one_if ((s || t) && b) x ≡ one_if (s && b) x) × (rest ≡ [])
one_joined true true true x rest is = absurd cc
one_joined true true false x rest is = (refl, is)
one_joined true false b x rest is = (refl, is)
one_joined false true true x rest is = absurd cc
one_joined false true false x rest is = (refl, is)
one_joined false false b x rest is = (refl, is)

-- where the second has done nothing, both have done what the first has
pub joined_from : (r : ℕ) (ms ks : List ℕ) (n : ℕ) (es : List JournalEntry)
    → done_from r ks n es ≡ [] → done_from r (ms ++ ks) n es ≡ done_from r ms n es
joined_from r ms ks n [] none = refl
joined_from r ms ks n (e ∷ es) none =
    let one = one_joined (stands_in n ms) (stands_in n ks) (e.by == r) e.event
    (done_from r ks (n + 1) es) none in
    ap (λ b. one_if (b && e.by == r) e.event ++ done_from r (ms ++ ks) (n + 1) es)
    (stands_append n ms ks)
    ∙ (ap (λ l. l ++ done_from r (ms ++ ks) (n + 1) es) one.0
    ∙ ap (λ l. one_if (stands_in n ms && e.by == r) e.event ++ l)
    (joined_from r ms ks (n + 1) es one.1))

two_joined : (s t b : Bool) (x : Event) (rest : List Event) → one_if (s && b) x ++ rest ≡ []
    → (one_if ((s || t) && b) x ≡ one_if (t && b) x) × (rest ≡ [])
two_joined true t true x rest is = absurd cc
two_joined true true false x rest is = (refl, is)
two_joined true false false x rest is = (refl, is)
two_joined false t b x rest is = (refl, is)

-- where the first has done nothing, both have done what the second has
pub later_from : (r : ℕ) (ms ks : List ℕ) (n : ℕ) (es : List JournalEntry)
    → done_from r ms n es ≡ [] → done_from r (ms ++ ks) n es ≡ done_from r ks n es
later_from r ms ks n [] none = refl
later_from r ms ks n (e ∷ es) none =
    let one = two_joined (stands_in n ms) (stands_in n ks) (e.by == r) e.event
    (done_from r ms (n + 1) es) none in
    ap (λ b. one_if (b && e.by == r) e.event ++ done_from r (ms ++ ks) (n + 1) es)
    (stands_append n ms ks)
    ∙ (ap (λ l. l ++ done_from r (ms ++ ks) (n + 1) es) one.0
    ∙ ap (λ l. one_if (stands_in n ks && e.by == r) e.event ++ l)
    (later_from r ms ks (n + 1) es one.1))

-- ---- the end

-- a pass with each place has done all events
pub all_from : (r : ℕ) (mine : List ℕ) (n : ℕ) (es : List JournalEntry) (top : ℕ)
    → n + length es ≤ top → ((m : ℕ) → m < top → stands_in m mine ≡ true)
    → done_from r mine n es ≡ events_by r es
all_from r mine n [] top le all = refl
all_from r mine n (e ∷ es) top le all =
    ap (λ b. one_if (b && e.by == r) e.event ++ done_from r mine (n + 1) es) (all n (omega arith))
    ∙ ap (λ l. one_if (e.by == r) e.event ++ l)
    (all_from r mine (n + 1) es top (omega arith) all)
