-- Loans in the order of their numbers, and by their connections and ids.
use Rattle.std.proofs.Common.{◌≡◌, ◌≢◌, ◌<◌, ◌≤◌, ◌+◌, ◌==◌, ◌&&◌, ℕ, zero, suc, Bool, true}
use Rattle.std.proofs.Common.{false, cond, not, Option, Some, None, IfSome, IsSome, is_some}
use Rattle.std.proofs.Common.{option_map, List, [], ◌∷◌, ◌++◌, map, slice_get, find, refl, sym, ap}
use Rattle.std.proofs.Common.{subst, ◌∙◌, arith, Ordering, Less, Equal, Greater, is_eq}
use Rattle.std.proofs.lemmas.List.Elements.{All-filter, All-from_recursion, All-weaker}
use Rattle.std.proofs.lemmas.List.Elements.{filter-append, filter_agree, recursion_from_All}
use Rattle.std.proofs.lemmas.Bool.Decides.{nat_tests}
use Rattle.std.proofs.lemmas.List.{map-append}
use Rattle.std.proofs.lemmas.Cmp.{eq_by_cmp_equiv, nat_cmp_total, on_total, then_total}
use Rattle.std.proofs.lemmas.Map.{NonePasses, lookup-none}
use Rattle.std.proofs.lemmas.Map.Entries.{All-lookup, none_past_head}
use Rattle.std.proofs.lemmas.Map.Keys.{IsDistinct-from_sorted, IsDistinct-tail}
use Rattle.std.specs.BTreeMap.{BTreeMap, insert_entry, is_at}
use Rattle.std.specs.BTreeMap.Range.{IsEntryInRange, IsLeBy, IsRangeOf}
use Rattle.std.specs.Cmp.{IsEquivalence, IsTotalOrder}
use Rattle.std.specs.List.{All, AllByRecursion, IsDistinct, filter, list_any}
use Rattle.std.specs.Map.{keys_of, lookup, remove_entry}
use Rattle.std.specs.Ordering.{eq_by_cmp, match_ordering}
use Rattle.std.specs.declared.ops.Bound.TheVariants as bound
use Rattle.gb_firmware.specs.Numbered.{AreNumbered, Entry, has_number, in_turn, key_cmp, loan_of}
use Rattle.gb_firmware.specs.Numbered.{loans_of}
use Rattle.gb_firmware.specs.declared.loans.Lent.{Lent}
use Rattle.gb_formats.specs.Images.{Loan, is_loan}
use Rattle.gb_formats.specs.Lists.{without}
use Rattle.gb_firmware.proofs.Kept.{any-find, find-kept, mapped, swapped}

-- ---- keys

-- of two keys one is before the other, or they are equal
key_total : IsTotalOrder key_cmp
key_total = then_total (on_total (λ p. p.0) nat_cmp_total) (on_total (λ p. p.1) nat_cmp_total)

key_equiv : IsEquivalence (eq_by_cmp key_cmp)
key_equiv = eq_by_cmp_equiv key_total

-- two keys are equal where both of their parts are
same-key : (k id : ℕ) (q : ℕ × ℕ)
    → is_at (key_cmp (k, id)) q ≡ (q.0 == k && q.1 == id)
same-key k id q = grind (arith, nat_tests)

-- a key that isn't before a connection's first, and not behind one of it, is one of it
same-connection : (k id : ℕ) (q : ℕ × ℕ) → IsLeBy key_cmp (k, 0) q
    → IsLeBy key_cmp q (k, id) → q.0 ≡ k
same-connection k id q from upto = grind (arith, nat_tests, from, upto)

-- no key of a connection is before its first
from-first : (k id : ℕ) → IsLeBy key_cmp (k, 0) (k, id)
from-first k id = grind (arith, nat_tests)

-- each key is there once
pub once : (n : ℕ) (m : BTreeMap (ℕ × ℕ) Lent) → AreNumbered n m
    → IsDistinct (eq_by_cmp key_cmp) (keys_of m.entries)
once n m are = IsDistinct-from_sorted key_cmp (keys_of m.entries) are.ordered

-- ---- entries that a test keeps

turned : (p : Entry → Bool) (n : ℕ) (es : List Entry)
    → filter p (in_turn n es) ≡ in_turn n (filter p es)
turned p zero es = refl
turned p (suc n) es =
    filter-append p (in_turn n es) (filter (has_number n) es)
    ∙ ap (λ xs. xs ++ filter p (filter (has_number n) es)) (turned p n es)
    ∙ ap (λ xs. in_turn n (filter p es) ++ xs) (swapped p (has_number n) es)

-- the loans that pass a test are those of the entries that do
kept : (p : Loan → Bool) (n : ℕ) (es : List Entry)
    → filter p (loans_of n es) ≡ loans_of n (filter (λ e. p (loan_of e)) es)
kept p n es =
    mapped p loan_of (in_turn n es) ∙ ap (map loan_of) (turned (λ e. p (loan_of e)) n es)

none-turned : (n : ℕ) → in_turn n [] ≡ []
none-turned zero = refl
none-turned (suc n) = ap (λ xs. xs ++ []) (none-turned n)

later-turned : (e : Entry) (n : ℕ) → n ≤ e.1.number → in_turn n (e ∷ []) ≡ []
later-turned e zero h = refl
later-turned e (suc n) h =
    let apart : (e.1.number == n) ≡ false = grind (arith, nat_tests, h) in
    ap (λ xs. xs ++ filter (has_number n) (e ∷ [])) (later-turned e n (omega (arith, h)))
    ∙ ap (λ t. cond t (e ∷ []) []) apart

-- one entry alone
one-turned : (e : Entry) (n : ℕ) → e.1.number < n → in_turn n (e ∷ []) ≡ e ∷ []
one-turned e zero h = absurd (omega (arith, h))
one-turned e (suc n) h = by (e.1.number == n) refl (one-turned e n)
  where
    by : (t : Bool) → (e.1.number == n) ≡ t
        → (e.1.number < n → in_turn n (e ∷ []) ≡ e ∷ [])
        → in_turn n (e ∷ []) ++ cond t (e ∷ []) [] ≡ e ∷ []
    by true is rec =
        ap (λ xs. xs ++ e ∷ []) (later-turned e n (grind (arith, nat_tests, is)))
    by false is rec = ap (λ xs. xs ++ []) (rec (grind (arith, nat_tests, is, h)))

-- ---- the entry under a key

none-left : (test : ℕ × ℕ → Bool) (es : List Entry) → lookup test es ≡ None
    → filter (λ e. test e.0) es ≡ []
none-left test [] none = refl
none-left test (e ∷ es) none = by (test e.0) none (none-left test es)
  where
    rest : List Entry
    rest = filter (λ f. test f.0) es

    by : (t : Bool) → cond t (Some e.1) (lookup test es) ≡ None
        → (lookup test es ≡ None → rest ≡ []) → cond t (e ∷ rest) rest ≡ []
    by true none rec = absurd cc
    by false none rec = rec none

-- these entries are what a look-up finds, under a key that passes the test
abbrev Found : (ℕ × ℕ → Bool) → Option Lent → List Entry → Type 0
Found test None es = es ≡ []
Found test (Some v) es = (key : ℕ × ℕ) × (test key ≡ true) × (es ≡ (key, v) ∷ [])

found : (k : ℕ × ℕ) (es : List Entry) → IsDistinct (eq_by_cmp key_cmp) (keys_of es)
    → Found (is_at (key_cmp k)) (lookup (is_at (key_cmp k)) es)
    (filter (λ e. is_at (key_cmp k) e.0) es)
found k [] once = refl
found k (e ∷ es) once =
    by (is_at (key_cmp k) e.0) refl
    (found k es (IsDistinct-tail (eq_by_cmp key_cmp) e.0 (keys_of es) once))
  where
    here : ℕ × ℕ → Bool
    here = is_at (key_cmp k)

    rest : List Entry
    rest = filter (λ f. here f.0) es

    by : (t : Bool) → here e.0 ≡ t → Found here (lookup here es) rest
        → Found here (cond t (Some e.1) (lookup here es)) (cond t (e ∷ rest) rest)
    by true is rec = (
      e.0,
      is,
      ap (λ fs. e ∷ fs)
          (none-left here es (lookup-none here es (none_past_head key_equiv k e es once is))),
    )
    by false is rec = rec

tag-found : (k id n : ℕ) (r : Option Lent) (es : List Entry)
    → Found (is_at (key_cmp (k, id))) r es → IfSome r (λ v. v.number < n)
    → option_map (λ l. l.tag) (find (is_loan k id) (loans_of n es)) ≡ option_map (λ v. v.tag) r
tag-found k id n None es f below =
    ap (λ fs. option_map (λ l. l.tag) (find (is_loan k id) (loans_of n fs))) f
    ∙ ap (λ fs. option_map (λ l. l.tag) (find (is_loan k id) (map loan_of fs))) (none-turned n)
tag-found k id n (Some v) es f below =
    let e : Entry = (f.0, v) in
    ap (λ fs. option_map (λ l. l.tag) (find (is_loan k id) (loans_of n fs))) f.2
    ∙ ap (λ fs. option_map (λ l. l.tag) (find (is_loan k id) (map loan_of fs)))
    (one-turned e n below)
    ∙ ap (λ t. option_map (λ l. l.tag) (cond t (Some (loan_of e)) None))
    (sym (same-key k id f.0) ∙ f.1)

-- the tag that is lent under an id of a connection
pub tag-lent : (k id n : ℕ) (es : List Entry) → IsDistinct (eq_by_cmp key_cmp) (keys_of es)
    → All (λ e. e.1.number < n) es
    → option_map (λ l. l.tag) (find (is_loan k id) (loans_of n es))
    ≡ option_map (λ v. v.tag) (lookup (is_at (key_cmp (k, id))) es)
tag-lent k id n es once below =
    ap (option_map (λ l. l.tag))
    (sym (find-kept (is_loan k id) (loans_of n es))
    ∙ ap (find (is_loan k id))
    (kept (is_loan k id) n es
    ∙ ap (loans_of n) (filter_agree (λ e. is_loan k id (loan_of e))
    (λ e. is_at (key_cmp (k, id)) e.0) (λ e. sym (same-key k id e.0)) es)))
    ∙ tag-found k id n (lookup (is_at (key_cmp (k, id))) es)
    (filter (λ e. is_at (key_cmp (k, id)) e.0) es) (found (k, id) es once)
    (All-lookup (λ v. v.number < n) (is_at (key_cmp (k, id))) es below)

some-map : {A B : Type 0} (f : A → B) (o : Option A) → is_some (option_map f o) ≡ is_some o
some-map f None = refl
some-map f (Some x) = refl

-- whether an image is lent under an id of a connection
pub any-lent : (k id n : ℕ) (es : List Entry) → IsDistinct (eq_by_cmp key_cmp) (keys_of es)
    → All (λ e. e.1.number < n) es
    → list_any (is_loan k id) (loans_of n es) ≡ is_some (lookup (is_at (key_cmp (k, id))) es)
any-lent k id n es once below =
    any-find (is_loan k id) (loans_of n es)
    ∙ sym (some-map (λ l. l.tag) (find (is_loan k id) (loans_of n es)))
    ∙ ap is_some (tag-lent k id n es once below)
    ∙ some-map (λ v. v.tag) (lookup (is_at (key_cmp (k, id))) es)

not-some : {A : Type 0} (o : Option A) → is_some o ≡ false → o ≡ None
not-some None none = refl
not-some (Some x) none = absurd cc

-- no look-up finds an id that isn't in use
pub unused : (k id n : ℕ) (m : BTreeMap (ℕ × ℕ) Lent) → AreNumbered n m
    → list_any (is_loan k id) (loans_of n m.entries) ≡ false
    → lookup (is_at (key_cmp (k, id))) m.entries ≡ None
unused k id n m are none =
    not-some (lookup (is_at (key_cmp (k, id))) m.entries)
    (sym (any-lent k id n m.entries (once n m are) are.below) ∙ none)

-- ---- an id is freed

all-kept : (test : ℕ × ℕ → Bool) (es : List Entry) → NonePasses test es
    → filter (λ e. not (test e.0)) es ≡ es
all-kept test [] none = refl
all-kept test (e ∷ es) none =
    ap (λ t. cond (not t) (e ∷ filter (λ f. not (test f.0)) es) (filter (λ f. not (test f.0)) es))
    none.0
    ∙ ap (λ fs. e ∷ fs) (all-kept test es none.1)

removed : (k : ℕ × ℕ) (es : List Entry) → IsDistinct (eq_by_cmp key_cmp) (keys_of es)
    → remove_entry (is_at (key_cmp k)) es ≡ filter (λ e. not (is_at (key_cmp k) e.0)) es
removed k [] once = refl
removed k (e ∷ es) once =
    by (is_at (key_cmp k) e.0) refl
    (removed k es (IsDistinct-tail (eq_by_cmp key_cmp) e.0 (keys_of es) once))
  where
    here : ℕ × ℕ → Bool
    here = is_at (key_cmp k)

    rest : List Entry
    rest = filter (λ f. not (here f.0)) es

    by : (t : Bool) → here e.0 ≡ t → remove_entry here es ≡ rest
        → cond t es (e ∷ remove_entry here es) ≡ cond (not t) (e ∷ rest) rest
    by true is rec = sym (all-kept here es (none_past_head key_equiv k e es once is))
    by false is rec = ap (λ fs. e ∷ fs) rec

-- the loans without one
pub freed : (k id n : ℕ) (es : List Entry) → IsDistinct (eq_by_cmp key_cmp) (keys_of es)
    → loans_of n (remove_entry (is_at (key_cmp (k, id))) es)
    ≡ without (is_loan k id) (loans_of n es)
freed k id n es once =
    ap (loans_of n)
    (removed (k, id) es once
    ∙ filter_agree (λ e. not (is_at (key_cmp (k, id)) e.0))
    (λ e. not (is_loan k id (loan_of e))) (λ e. ap not (same-key k id e.0)) es)
    ∙ sym (kept (λ l. not (is_loan k id l)) n es)

-- the numbers stay below
pub below-freed : (k : ℕ × ℕ) (n : ℕ) (es : List Entry)
    → IsDistinct (eq_by_cmp key_cmp) (keys_of es) → All (λ e. e.1.number < n) es
    → All (λ e. e.1.number < n) (remove_entry (is_at (key_cmp k)) es)
below-freed k n es once below =
    subst (All (λ e. e.1.number < n)) (sym (removed k es once))
    (All-filter (λ e. not (is_at (key_cmp k) e.0)) (λ e. e.1.number < n) es below)

-- ---- an image is lent

skipped : (q : Entry → Bool) (k : ℕ × ℕ) (v : Lent) (es : List Entry) → q (k, v) ≡ false
    → lookup (is_at (key_cmp k)) es ≡ None
    → filter q (insert_entry key_cmp es k v) ≡ filter q es
skipped q k v [] fails free = ap (λ t. cond t ((k, v) ∷ []) []) fails
skipped q k v (e ∷ es) fails free = by (key_cmp k e.0) free (skipped q k v es fails)
  where
    more : List Entry
    more = insert_entry key_cmp es k v

    by : (o : Ordering) → cond (is_eq o) (Some e.1) (lookup (is_at (key_cmp k)) es) ≡ None
        → (lookup (is_at (key_cmp k)) es ≡ None → filter q more ≡ filter q es)
        → filter q (match_ordering o ((k, v) ∷ e ∷ es) ((e.0, v) ∷ es) (e ∷ more))
        ≡ filter q (e ∷ es)
    by Less free rec =
        ap (λ t. cond t ((k, v) ∷ filter q (e ∷ es)) (filter q (e ∷ es))) fails
    by Equal free rec = absurd cc
    by Greater free rec = ap (λ fs. cond (q e) (e ∷ fs) fs) (rec free)

none-kept : (q : Entry → Bool) (es : List Entry) → AllByRecursion (λ e. q e ≡ false) es
    → filter q es ≡ []
none-kept q [] none = refl
none-kept q (e ∷ es) none =
    ap (λ t. cond t (e ∷ filter q es) (filter q es)) none.0 ∙ none-kept q es none.1

added : (q : Entry → Bool) (k : ℕ × ℕ) (v : Lent) (es : List Entry) → q (k, v) ≡ true
    → AllByRecursion (λ e. q e ≡ false) es → lookup (is_at (key_cmp k)) es ≡ None
    → filter q (insert_entry key_cmp es k v) ≡ (k, v) ∷ []
added q k v [] passes none free = ap (λ t. cond t ((k, v) ∷ []) []) passes
added q k v (e ∷ es) passes none free =
    by (key_cmp k e.0) free (added q k v es passes none.1)
  where
    more : List Entry
    more = insert_entry key_cmp es k v

    by : (o : Ordering) → cond (is_eq o) (Some e.1) (lookup (is_at (key_cmp k)) es) ≡ None
        → (lookup (is_at (key_cmp k)) es ≡ None → filter q more ≡ (k, v) ∷ [])
        → filter q (match_ordering o ((k, v) ∷ e ∷ es) ((e.0, v) ∷ es) (e ∷ more))
        ≡ (k, v) ∷ []
    by Less free rec =
        ap (λ t. cond t ((k, v) ∷ filter q (e ∷ es)) (filter q (e ∷ es))) passes
        ∙ ap (λ fs. (k, v) ∷ fs) (none-kept q (e ∷ es) none)
    by Equal free rec = absurd cc
    by Greater free rec =
        ap (λ t. cond t (e ∷ filter q more) (filter q more)) none.0 ∙ rec free

earlier : (m : ℕ) (k : ℕ × ℕ) (v : Lent) (es : List Entry) → m ≤ v.number
    → lookup (is_at (key_cmp k)) es ≡ None
    → in_turn m (insert_entry key_cmp es k v) ≡ in_turn m es
earlier zero k v es upto free = refl
earlier (suc m) k v es upto free =
    let apart : (v.number == m) ≡ false = grind (arith, nat_tests, upto) in
    ap (λ xs. xs ++ filter (has_number m) (insert_entry key_cmp es k v))
    (earlier m k v es (omega (arith, upto)) free)
    ∙ ap (λ xs. in_turn m es ++ xs) (skipped (has_number m) k v es apart free)

-- the loans with one more
pub lent-more : (k id n m : ℕ) (tag : List ℕ) (es : List Entry) → m ≡ n + 1
    → All (λ e. e.1.number < n) es → lookup (is_at (key_cmp (k, id))) es ≡ None
    → loans_of m (insert_entry key_cmp es (k, id) (record { number = n; tag = tag }))
    ≡ loans_of n es ++ record { connection = k; id = id; tag = tag } ∷ []
lent-more k id n m tag es next below free =
    let v : Lent = record { number = n; tag = tag } in
    let more : List Entry = insert_entry key_cmp es (k, id) v in
    let same : (n == n) ≡ true = grind (arith, nat_tests) in
    let upto : n ≤ n = omega arith in
    let one : m ≡ suc n = omega (arith, next) in
    let none : AllByRecursion (λ e. has_number n e ≡ false) es =
    recursion_from_All (λ e. has_number n e ≡ false) es
    (All-weaker (λ e. e.1.number < n) (λ e. has_number n e ≡ false) apart es below)
    in
    ap (λ i. loans_of i more) one
    ∙ ap (map loan_of)
    (ap (λ xs. xs ++ filter (has_number n) more) (earlier n (k, id) v es upto free)
    ∙ ap (λ xs. in_turn n es ++ xs) (added (has_number n) (k, id) v es same none free))
    ∙ map-append loan_of (in_turn n es) (((k, id), v) ∷ [])
  where
    apart : (e : Entry) → e.1.number < n → has_number n e ≡ false
    apart e h = grind (arith, nat_tests, h)

below-placed : (k : ℕ × ℕ) (v : Lent) (n : ℕ) (es : List Entry) → v.number < n
    → AllByRecursion (λ e. e.1.number < n) es
    → AllByRecursion (λ e. e.1.number < n) (insert_entry key_cmp es k v)
below-placed k v n [] here below = (here, tt)
below-placed k v n (e ∷ es) here below =
    by (key_cmp k e.0) (below-placed k v n es here below.1)
  where
    by : (o : Ordering)
        → AllByRecursion (λ f. f.1.number < n) (insert_entry key_cmp es k v)
        → AllByRecursion (λ f. f.1.number < n)
        (match_ordering o ((k, v) ∷ e ∷ es) ((e.0, v) ∷ es) (e ∷ insert_entry key_cmp es k v))
    by Less rec = (here, below)
    by Equal rec = (here, below.1)
    by Greater rec = (below.0, rec)

-- the numbers are below the next count
pub below-more : (k : ℕ × ℕ) (v : Lent) (m : ℕ) (es : List Entry) → m ≡ v.number + 1
    → All (λ e. e.1.number < v.number) es
    → All (λ e. e.1.number < m) (insert_entry key_cmp es k v)
below-more k v m es next below =
    All-from_recursion (λ e. e.1.number < m) (insert_entry key_cmp es k v)
    (below-placed k v m es (omega (arith, next))
    (recursion_from_All (λ e. e.1.number < m) es
    (All-weaker (λ e. e.1.number < v.number) (λ e. e.1.number < m)
    (λ e h. omega (arith, next, h)) es below)))

-- ---- the ids of a connection

rest-none : (t : Bool) (v : Lent) (r : Option Lent) → cond t (Some v) r ≡ None → r ≡ None
rest-none true v r none = absurd cc
rest-none false v r none = none

none-of : (k : ℕ) (es : List Entry) → ((id : ℕ) → lookup (is_at (key_cmp (k, id))) es ≡ None)
    → filter (λ e. e.0.0 == k) es ≡ []
none-of k [] none = refl
none-of k (e ∷ es) none =
    by (e.0.0 == k) refl (none-of k es
    (λ id. rest-none (is_at (key_cmp (k, id)) e.0) e.1 (lookup (is_at (key_cmp (k, id))) es)
    (none id)))
  where
    rest : List Entry
    rest = filter (λ f. f.0.0 == k) es

    here : (e.0.0 == k) ≡ true → is_at (key_cmp (k, e.0.1)) e.0 ≡ true
    here is = same-key k e.0.1 e.0 ∙ grind (arith, nat_tests, is)

    by : (t : Bool) → (e.0.0 == k) ≡ t → rest ≡ [] → cond t (e ∷ rest) rest ≡ []
    by true is rec =
        absurd (cc (none e.0.1, here is))
    by false is rec = rec

-- a connection has no loans where no look-up finds one
none-lent : (k n : ℕ) (es : List Entry)
    → ((id : ℕ) → lookup (is_at (key_cmp (k, id))) es ≡ None)
    → list_any (λ l. l.connection == k) (loans_of n es) ≡ false
none-lent k n es none =
    any-find (λ l. l.connection == k) (loans_of n es)
    ∙ ap is_some (sym (find-kept (λ l. l.connection == k) (loans_of n es))
    ∙ ap (find (λ l. l.connection == k))
    (kept (λ l. l.connection == k) n es ∙ ap (loans_of n) (none-of k es none)
    ∙ ap (map loan_of) (none-turned n)))

-- the entries from a connection's first key on
abbrev IsFrom : ℕ → BTreeMap (ℕ × ℕ) Lent → List Entry → Type 0
IsFrom k m es = IsRangeOf key_cmp (bound.Included (k, 0)) bound.Unbounded m es

-- there are none
pub none-from : (k n : ℕ) (m : BTreeMap (ℕ × ℕ) Lent) (es : List Entry) → IsFrom k m es → es ≡ []
    → list_any (λ l. l.connection == k) (loans_of n m.entries) ≡ false
none-from k n m es from none =
    none-lent k n m.entries (λ id. from.5 none (k, id) (from-first k id, tt))

-- the first is of the connection
pub one-from : (k n : ℕ) (m : BTreeMap (ℕ × ℕ) Lent) (e : Entry) (es more : List Entry)
    → AreNumbered n m → IsFrom k m es → es ≡ e ∷ more → e.0.0 ≡ k
    → list_any (is_loan k e.0.1) (loans_of n m.entries) ≡ true
one-from k n m e es more are from is same =
    let here = subst (λ fs. IfSome (slice_get fs 0)
    (IsEntryInRange key_cmp (bound.Included (k, 0)) bound.Unbounded m)) is from.1 in
    any-lent k e.0.1 n m.entries (once n m are) are.below
    ∙ ap is_some (ap (λ j. lookup (is_at (key_cmp (j, e.0.1))) m.entries) (sym same) ∙ here.1)

-- the first is of another connection
pub other-from : (k n : ℕ) (m : BTreeMap (ℕ × ℕ) Lent) (e : Entry) (es more : List Entry)
    → IsFrom k m es → es ≡ e ∷ more → e.0.0 ≢ k
    → list_any (λ l. l.connection == k) (loans_of n m.entries) ≡ false
other-from k n m e es more from is other =
    none-lent k n m.entries (λ id. by id (lookup (is_at (key_cmp (k, id))) m.entries) refl)
  where
    here : IfSome (slice_get (e ∷ more) 0)
        (IsEntryInRange key_cmp (bound.Included (k, 0)) bound.Unbounded m)
    here =
        subst (λ fs. IfSome (slice_get fs 0)
        (IsEntryInRange key_cmp (bound.Included (k, 0)) bound.Unbounded m)) is from.1

    upto : (id : ℕ) → IsSome (lookup (is_at (key_cmp (k, id))) m.entries)
        → IsLeBy key_cmp e.0 (k, id)
    upto id some =
        subst (λ fs. IfSome (slice_get fs 0) (λ f. IsLeBy key_cmp f.0 (k, id))) is
        (from.2 (k, id) (from-first k id, tt) some)

    by : (id : ℕ) (o : Option Lent) → lookup (is_at (key_cmp (k, id))) m.entries ≡ o → o ≡ None
    by id None e = refl
    by id (Some v) is-there =
        absurd (other (same-connection k id e.0 here.0.0
        (upto id (subst IsSome (sym is-there) refl))))
