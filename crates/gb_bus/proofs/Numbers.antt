-- The numbers of all live connections, in order, and what is looked up by them.
use Rattle.std.proofs.Common.{◌≡◌, ℕ, Bool, true, false, cond, inl, inr, Option, Some, None, List}
use Rattle.std.proofs.Common.{[], ◌∷◌, map, filter, option_map, refl, sym, ap, ◌∙◌, arith}
use Rattle.std.proofs.lemmas.Bool.Decides.{nat_tests}
use Rattle.std.specs.List.{IsDistinct, find}
use Rattle.std.specs.List.Sorted.{IsStrictlySortedBy}
use Rattle.std.specs.Map.{keys_of, lookup}
use Rattle.std.specs.Ordering.{nat_cmp}
use Rattle.std.specs.Prelude.{nat_eq}
use Rattle.gb_bus.proofs.Entries.{EachEntry, each-entry, find-seen, same-number}
use Rattle.gb_bus.proofs.InOrder.{lookup-sorted, rises-sorted, unique-sorted}
use Rattle.gb_bus.proofs.Listed.{same-list}
use Rattle.gb_bus.proofs.SlotLists.{passes, stands-where}
use Rattle.gb_bus.specs.Connection.{Connection}
use Rattle.gb_bus.specs.Keeping.{numbers_where}
use Rattle.gb_bus.specs.Listing.{stands_in}
use Rattle.gb_bus.specs.Overview.{known_as}
use Rattle.gb_bus.specs.Parts.{numbered}
use Rattle.gb_bus.specs.Seen.{all_seen, by_number, seen, seen_in_order}
use Rattle.gb_bus.specs.declared.connection.Connection as code
use Rattle.gb_bus.specs.declared.overview.Known.{Known}
use Rattle.gb_invariants.proofs.Outcomes.{any-in, in-any}
use Rattle.gb_machine.specs.Lists.{holds_of}
use Rattle.gb_machine.specs.Members.{Each, IsIn}
use Rattle.gb_ops.proofs.Listing.{rising}

-- ---- the numbers

abbrev pub whichever : {X : Type 0} → X → Bool
whichever x = true

pub key-in : {X : Type 0} (n : ℕ) (es : List (ℕ × X))
    → passes whichever (lookup (nat_eq n) es) ≡ true → IsIn n (keys_of es)
key-in n [] there = absurd cc
key-in {X} n (e ∷ es) there = by (nat_eq n e.0) refl there (key-in n es)
  where
    one : (m k : ℕ) → nat_eq m k ≡ true → m ≡ k
    one m k t = grind (arith, nat_tests)

    by : (b : Bool) → nat_eq n e.0 ≡ b
        → passes whichever (cond b (Some e.1) (lookup (nat_eq n) es)) ≡ true
        → (passes whichever (lookup (nat_eq n) es) ≡ true → IsIn n (keys_of es))
        → IsIn n (keys_of (e ∷ es))
    by true t h later = inl (one n e.0 t)
    by false t h later = inr (later h)

in-key : {X : Type 0} (n : ℕ) (es : List (ℕ × X)) → IsIn n (keys_of es)
    → passes whichever (lookup (nat_eq n) es) ≡ true
in-key n [] i = absurd i
in-key n (e ∷ es) (inl is) =
    ap (λ b. passes whichever (cond b (Some e.1) (lookup (nat_eq n) es))) (same-number n e.0 is)
in-key n (e ∷ es) (inr i) = by (nat_eq n e.0) (in-key n es i)
  where
    by : (b : Bool) → passes whichever (lookup (nat_eq n) es) ≡ true
        → passes whichever (cond b (Some e.1) (lookup (nat_eq n) es)) ≡ true
    by true h = refl
    by false h = h

pub all-numbers : {X : Type 0} (ns : List ℕ) (es : List (ℕ × X)) → IsDistinct nat_eq (keys_of es)
    → IsStrictlySortedBy nat_cmp ns → ns ≡ numbers_where whichever [] es
    → ns ≡ keys_of (by_number es)
all-numbers ns es d sorted is =
    same-list ns (keys_of (by_number es)) (rising ns sorted) (rises-sorted es d)
    (λ n i. key-in n (by_number es)
    (ap (passes whichever) (lookup-sorted n es) ∙ sym (stands n) ∙ in-any n ns i))
    (λ n i. any-in n ns
    (stands n ∙ sym (ap (passes whichever) (lookup-sorted n es)) ∙ in-key n (by_number es) i))
  where
    stands : (n : ℕ) → stands_in n ns ≡ passes whichever (lookup (nat_eq n) es)
    stands n = ap (stands_in n) is ∙ stands-where whichever n [] es d

keys-seen : (es : List (ℕ × code.Connection)) → keys_of es ≡ map (λ c. c.number) (all_seen es)
keys-seen [] = refl
keys-seen (e ∷ es) = ap (λ ns. e.0 ∷ ns) (keys-seen es)

-- ---- what is looked up

-- each of these is found by its number
abbrev AreFound : List Connection → List Connection → Type 0
AreFound xs ys = Each (λ y. find (numbered y.number) xs ≡ Some y) ys

are-found : (es : List (ℕ × code.Connection)) → IsDistinct nat_eq (keys_of es)
    → AreFound (all_seen es) (all_seen es)
are-found es d =
    each es (each-entry (λ k x. find (numbered k) (all_seen es) ≡ Some (seen k x)) es d
    (λ k x there. find-seen es k ∙ ap (option_map (seen k)) there))
  where
    each : (fs : List (ℕ × code.Connection))
        → EachEntry (λ k x. find (numbered k) (all_seen es) ≡ Some (seen k x)) fs
        → AreFound (all_seen es) (all_seen fs)
    each [] h = tt
    each (f ∷ fs) h = (h.0, each fs h.1)

-- in front of others, where there is something
abbrev in_front : {A : Type 0} → Option A → List A → List A
in_front None xs = xs
in_front (Some x) xs = x ∷ xs

-- what is told of the connections with numbers
abbrev pub told : List Connection → List ℕ → List Known
told xs [] = []
told xs (n ∷ ns) =
    let later = told xs ns in in_front (option_map known_as (find (numbered n) xs)) later

told-found : (xs ys : List Connection) → AreFound xs ys
    → told xs (map (λ c. c.number) ys) ≡ map known_as ys
told-found xs [] h = refl
told-found xs (y ∷ ys) h =
    ap (λ o. in_front (option_map known_as o) (told xs (map (λ c. c.number) ys))) h.0
    ∙ ap (λ ks. known_as y ∷ ks) (told-found xs ys h.1)

pub told-all : (ns : List ℕ) (es : List (ℕ × code.Connection)) (xs : List Connection)
    → IsDistinct nat_eq (keys_of es) → seen_in_order es ≡ xs → ns ≡ keys_of (by_number es)
    → told xs ns ≡ map known_as xs
told-all ns es xs d view is =
    ap (told xs) (is ∙ keys-seen (by_number es))
    ∙ ap (λ ys. told ys (map (λ c. c.number) (seen_in_order es))) (sym view)
    ∙ told-found (seen_in_order es) (seen_in_order es)
    (are-found (by_number es) (unique-sorted es d))
    ∙ ap (map known_as) view

-- the connection with a number passes
abbrev pub passes_at : (Connection → Bool) → List Connection → ℕ → Bool
passes_at test xs n = holds_of test (find (numbered n) xs)

those-found : (test : Connection → Bool) (xs ys : List Connection) → AreFound xs ys
    → filter (passes_at test xs) (map (λ c. c.number) ys) ≡ map (λ c. c.number) (filter test ys)
those-found test xs [] h = refl
those-found test xs (y ∷ ys) h =
    ap (λ o. cond (holds_of test o) (y.number ∷ filter (passes_at test xs) (map (λ c. c.number) ys))
    (filter (passes_at test xs) (map (λ c. c.number) ys))) h.0
    ∙ by (test y) (those-found test xs ys h.1)
  where
    by : (b : Bool)
        → filter (passes_at test xs) (map (λ c. c.number) ys) ≡ map (λ c. c.number) (filter test ys)
        → cond b (y.number ∷ filter (passes_at test xs) (map (λ c. c.number) ys))
        (filter (passes_at test xs) (map (λ c. c.number) ys))
        ≡ map (λ c. c.number) (cond b (y ∷ filter test ys) (filter test ys))
    by true later = ap (λ ns. y.number ∷ ns) later
    by false later = later

pub those-that : (test : Connection → Bool) (ns : List ℕ) (es : List (ℕ × code.Connection))
    (xs : List Connection) → IsDistinct nat_eq (keys_of es) → seen_in_order es ≡ xs
    → ns ≡ keys_of (by_number es)
    → filter (passes_at test xs) ns ≡ map (λ c. c.number) (filter test xs)
those-that test ns es xs d view is =
    ap (filter (passes_at test xs)) (is ∙ keys-seen (by_number es))
    ∙ ap (λ ys. filter (passes_at test ys) (map (λ c. c.number) (seen_in_order es))) (sym view)
    ∙ those-found test (seen_in_order es) (seen_in_order es)
    (are-found (by_number es) (unique-sorted es d))
    ∙ ap (λ ys. map (λ c. c.number) (filter test ys)) view
