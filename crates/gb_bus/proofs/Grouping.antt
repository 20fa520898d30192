-- The numbers of live connections by interface, how they are kept, and what is looked up by them.
use Rattle.std.proofs.Common.{◌≡◌, ◌≢◌, ◌<◌, ℕ, Bool, true, false, cond, not, ◌&&◌, ◌||◌, ◌⊎◌, inl}
use Rattle.std.proofs.Common.{inr, Option, Some, None, List, [], ◌∷◌, filter, map, option_map, eqb}
use Rattle.std.proofs.Common.{eqb-true, refl, sym, ap, ◌∙◌}
use Rattle.std.proofs.lemmas.Bool.{cases_eq}
use Rattle.std.proofs.lemmas.List.Kept.{IsStrictlySortedBy-filter}
use Rattle.std.specs.BTreeSet.{insert_key}
use Rattle.std.specs.List.{list_any}
use Rattle.std.specs.List.Sorted.{IsStrictlySortedBy}
use Rattle.std.specs.Map.{keys_of, lookup, set_value}
use Rattle.std.specs.Ordering.{nat_cmp}
use Rattle.std.specs.Prelude.{nat_eq}
use Rattle.indexmap.specs.IndexMap.{IsUnique, get}
use Rattle.gb_base.specs.declared.end.End.{End}
use Rattle.gb_base.specs.declared.end.End.TheVariants as end
use Rattle.gb_bus.proofs.Entries.{other-number, same-number, set-here, set-others}
use Rattle.gb_bus.proofs.InOrder.{lookup-sorted, rises-sorted}
use Rattle.gb_bus.proofs.Keeping.{kept-change, kept-same, same-marks}
use Rattle.gb_bus.proofs.KeepingLive.{Changed, kept-added, kept-numbers, kept-removed}
use Rattle.gb_bus.proofs.Listed.{same-list}
use Rattle.gb_bus.proofs.Numbers.{key-in, passes_at, those-that, whichever}
use Rattle.gb_bus.proofs.SeeingChanges.{finds}
use Rattle.gb_bus.proofs.SlotDues.{stands-put}
use Rattle.gb_bus.proofs.SlotLists.{passes}
use Rattle.gb_bus.specs.Connection.{Connection}
use Rattle.gb_bus.specs.Ends.{is_far}
use Rattle.gb_bus.specs.Index.{AreGrouped, AreKept, Ends, Enters, GetsNumber, IsIdle}
use Rattle.gb_bus.specs.Index.{KeepsNumbers, Leaves, Live, LosesNumber, Remarks, is_far_at}
use Rattle.gb_bus.specs.Listing.{stands_in}
use Rattle.gb_bus.specs.Parts.{idled, is_wired_to}
use Rattle.gb_bus.specs.Seen.{by_number, seen, seen_in_order}
use Rattle.gb_bus.specs.Sides.{HasEndsOf}
use Rattle.gb_bus.specs.declared.connection.Connection as code
use Rattle.gb_groups.specs.Groups.{Regroups, left_out, numbers_in}
use Rattle.gb_invariants.proofs.Lists.{filter-in, in-filter, two-filter}
use Rattle.gb_invariants.proofs.Outcomes.{any-in, both-true}
use Rattle.gb_machine.specs.Lists.{holds_of}
use Rattle.gb_machine.specs.Wiring.{is_at}
use Rattle.gb_ops.proofs.Listing.{rising}

-- ---- a number more or less

stands-left : (k n : ℕ) (ns : List ℕ)
    → stands_in k (left_out n ns) ≡ (not (eqb n k) && stands_in k ns)
stands-left k n [] = neither (not (eqb n k))
  where
    neither : (a : Bool) → false ≡ (a && false)
    neither true = refl
    neither false = refl
stands-left k n (m ∷ ms) = by (eqb m n) refl (eqb m k) refl (eqb n k) refl (stands-left k n ms)
  where
    three : eqb m n ≡ true → eqb m k ≡ true → eqb n k ≡ true
    three s t = same-number n k (sym (eqb-true m n s) ∙ eqb-true m k t)

    other : eqb m n ≡ false → eqb m k ≡ true → eqb n k ≡ true → ⊥
    other s t u = absurd (cc (s, same-number m n (eqb-true m k t ∙ sym (eqb-true n k u))))

    by : (a : Bool) → eqb m n ≡ a → (b : Bool) → eqb m k ≡ b → (e : Bool) → eqb n k ≡ e
        → stands_in k (left_out n ms) ≡ (not e && stands_in k ms)
        → stands_in k (cond (not a) (m ∷ left_out n ms) (left_out n ms))
        ≡ (not e && (b || stands_in k ms))
    by true s true t true u later = later
    by true s true t false u later = absurd (cc (u, three s t))
    by true s false t e u later = later
    by false s true t true u later = absurd (other s t u)
    by false s true t false u later = ap (λ b. b || stands_in k (left_out n ms)) t
    by false s false t e u later = ap (λ b. b || stands_in k (left_out n ms)) t ∙ later

pub enters : (old new : List (List ℕ)) (j c n : ℕ)
    → Regroups old new j (insert_key nat_cmp (numbers_in old j) n)
    → Enters old new (end.Module j c) n
enters old new j c n r i k = by (cases_eq i j)
  where
    by : (i ≡ j) ⊎ (i ≢ j) → stands_in k (numbers_in new i)
        ≡ ((eqb j i && eqb n k) || stands_in k (numbers_in old i))
    by (inl is) =
        ap (λ g. stands_in k (numbers_in new g)) is ∙ ap (stands_in k) r.here
        ∙ stands-put k n (numbers_in old j)
        ∙ sym (ap (λ g. (eqb j g && eqb n k) || stands_in k (numbers_in old g)) is
        ∙ ap (λ b. (b && eqb n k) || stands_in k (numbers_in old j)) (same-number j j refl))
    by (inr ne) =
        ap (stands_in k) (r.others i ne)
        ∙ sym (ap (λ b. (b && eqb n k) || stands_in k (numbers_in old i))
        (other-number j i (λ e. ne (sym e))))

pub leaves : (old new : List (List ℕ)) (j c n : ℕ)
    → Regroups old new j (left_out n (numbers_in old j)) → Leaves old new (end.Module j c) n
leaves old new j c n r i k = by (cases_eq i j)
  where
    by : (i ≡ j) ⊎ (i ≢ j) → stands_in k (numbers_in new i)
        ≡ (not (eqb j i && eqb n k) && stands_in k (numbers_in old i))
    by (inl is) =
        ap (λ g. stands_in k (numbers_in new g)) is ∙ ap (stands_in k) r.here
        ∙ stands-left k n (numbers_in old j)
        ∙ sym (ap (λ g. not (eqb j g && eqb n k) && stands_in k (numbers_in old g)) is
        ∙ ap (λ b. not (b && eqb n k) && stands_in k (numbers_in old j)) (same-number j j refl))
    by (inr ne) =
        ap (stands_in k) (r.others i ne)
        ∙ sym (ap (λ b. not (b && eqb n k) && stands_in k (numbers_in old i))
        (other-number j i (λ e. ne (sym e))))

-- ---- how the numbers are kept

-- what entered and left again is as it was
enters-leaves : (live : Live) (g h o : List (List ℕ)) (at : End) (n : ℕ)
    → get nat_eq live n ≡ None → Enters g h at n → Leaves h o at n → AreGrouped g live
    → AreGrouped o live
enters-leaves live g h o at n free enter leave kept i k =
    leave i k
    ∙ ap (λ b. not (is_at i at && eqb n k) && b) (enter i k)
    ∙ by (is_at i at) (eqb n k) (stands_in k (numbers_in g i)) none
    ∙ kept i k
  where
    none : eqb n k ≡ true → stands_in k (numbers_in g i) ≡ false
    none same =
        kept i k
        ∙ ap (holds_of (is_far_at i))
        (ap (get nat_eq live) (sym (eqb-true n k same)) ∙ free)

    by : (a e s : Bool) → (e ≡ true → s ≡ false) → (not (a && e) && ((a && e) || s)) ≡ s
    by true true s gone = sym (gone refl)
    by true false s gone = refl
    by false e s gone = refl

grouped-added : (live live' : Live) (g h : List (List ℕ)) (n : ℕ) (x : code.Connection)
    → get nat_eq live n ≡ None → Changed live live' n (Some x) → Enters g h x.peer n
    → AreGrouped g live → AreGrouped h live'
grouped-added live live' g h n x free more enter kept i k =
    enter i k
    ∙ ap (λ b. (is_at i x.peer && eqb n k) || b) (kept i k)
    ∙ by (eqb n k) refl
    ∙ sym (ap (holds_of (is_far_at i)) (more k))
  where
    alone : (a : Bool) → ((a && true) || false) ≡ a
    alone true = refl
    alone false = refl

    other : (a b : Bool) → ((a && false) || b) ≡ b
    other true b = refl
    other false b = refl

    by : (e : Bool) → eqb n k ≡ e
        → ((is_at i x.peer && e) || holds_of (is_far_at i) (get nat_eq live k))
        ≡ holds_of (is_far_at i) (cond e (Some x) (get nat_eq live k))
    by true same =
        ap (λ o. (is_at i x.peer && true) || holds_of (is_far_at i) o)
        (ap (get nat_eq live) (sym (eqb-true n k same)) ∙ free)
        ∙ alone (is_at i x.peer)
    by false apart = other (is_at i x.peer) (holds_of (is_far_at i) (get nat_eq live k))

grouped-removed : (live live' : Live) (g h : List (List ℕ)) (n : ℕ) (x : code.Connection)
    → get nat_eq live n ≡ Some x → Changed live live' n None → Leaves g h x.peer n
    → AreGrouped g live → AreGrouped h live'
grouped-removed live live' g h n x found gone leave kept i k =
    leave i k
    ∙ ap (λ b. not (is_at i x.peer && eqb n k) && b) (kept i k)
    ∙ by (eqb n k) refl
    ∙ sym (ap (holds_of (is_far_at i)) (gone k))
  where
    neither : (a : Bool) → (not (a && true) && a) ≡ false
    neither true = refl
    neither false = refl

    other : (a b : Bool) → (not (a && false) && b) ≡ b
    other true b = refl
    other false b = refl

    by : (e : Bool) → eqb n k ≡ e
        → (not (is_at i x.peer && e) && holds_of (is_far_at i) (get nat_eq live k))
        ≡ holds_of (is_far_at i) (cond e None (get nat_eq live k))
    by true same =
        ap (λ o. not (is_at i x.peer && true) && holds_of (is_far_at i) o)
        (ap (get nat_eq live) (sym (eqb-true n k same)) ∙ found)
        ∙ neither (is_at i x.peer)
    by false apart = other (is_at i x.peer) (holds_of (is_far_at i) (get nat_eq live k))

grouped-set : (live live' : Live) (g : List (List ℕ)) (n : ℕ) (x y : code.Connection)
    → get nat_eq live n ≡ Some x → live'.entries ≡ set_value (nat_eq n) live.entries y
    → y.peer ≡ x.peer → AreGrouped g live → AreGrouped g live'
grouped-set live live' g n x y found set far kept i k = kept i k ∙ by (cases_eq k n)
  where
    by : (k ≡ n) ⊎ (k ≢ n) → holds_of (is_far_at i) (get nat_eq live k)
        ≡ holds_of (is_far_at i) (get nat_eq live' k)
    by (inl is) =
        ap (λ j. holds_of (is_far_at i) (get nat_eq live j)) is
        ∙ ap (holds_of (is_far_at i)) found
        ∙ ap (is_at i) (sym far)
        ∙ sym (ap (λ j. holds_of (is_far_at i) (get nat_eq live' j)) is
        ∙ ap (holds_of (is_far_at i))
        (ap (lookup (nat_eq n)) set ∙ set-here n live.entries x y found))
    by (inr ne) =
        sym (ap (holds_of (is_far_at i))
        (ap (lookup (nat_eq k)) set ∙ set-others n k live.entries y ne))

grouped-same : (live live' : Live) (g : List (List ℕ)) → live'.entries ≡ live.entries
    → AreGrouped g live → AreGrouped g live'
grouped-same live live' g same kept i k =
    kept i k ∙ ap (λ es. holds_of (is_far_at i) (lookup (nat_eq k) es)) (sym same)

-- ---- how all is kept

pub all-same : {g : List (List ℕ)} (live live' : Live) (ends : Ends) (old : List End)
    → live'.entries ≡ live.entries → AreKept live ends old g → AreKept live' ends old g
all-same {g} live live' ends old same k = record {
  maps = kept-same live live' ends old same k.maps;
  grouped = grouped-same live live' g same k.grouped;
}

-- where one connection changes, but not its ends
pub all-change : {g : List (List ℕ)} (live live' : Live) (ends : Ends) (old new : List End) (n : ℕ)
    (x y : code.Connection)
    → get nat_eq live n ≡ Some x → live'.entries ≡ set_value (nat_eq n) live.entries y
    → Remarks old new x y → AreKept live ends old g → AreKept live' ends new g
all-change {g} live live' ends old new n x y found set m k = record {
  maps = kept-change live live' ends old new n x y found set m k.maps;
  grouped = grouped-set live live' g n x y found set m.far k.grouped;
}

-- the same, where the same waits at these ends
pub all-set : {g : List (List ℕ)} (live live' : Live) (ends : Ends) (old : List End) (n : ℕ)
    (x y : code.Connection)
    → get nat_eq live n ≡ Some x → live'.entries ≡ set_value (nat_eq n) live.entries y
    → HasEndsOf (seen 0 x) (seen 0 y) → AreKept live ends old g → AreKept live' ends old g
all-set live live' ends old n x y found set s k =
    all-change live live' ends old old n x y found set
    (same-marks old x y s (k.maps.marked n x found)) k

pub all-removed : (live live' : Live) (e f : Ends) (old new : List End) (g h : List (List ℕ))
    (n : ℕ) (x y : code.Connection) → get nat_eq live n ≡ Some x → Changed live live' n None
    → IsUnique nat_eq live' → LosesNumber e f (end.Ap x.ap) x.peer → Leaves g h x.peer n
    → seen 0 y ≡ idled (seen 0 x) → Remarks old new x y → AreKept live e old g
    → AreKept live' f new h
all-removed live live' e f old new g h n x y found gone s loses leave lost m k = record {
  maps = kept-removed live live' e f old new n x y found gone s loses lost m k.maps;
  grouped = grouped-removed live live' g h n x found gone leave k.grouped;
}

pub all-added : (live live' : Live) (e f : Ends) (old : List End) (g h : List (List ℕ)) (n : ℕ)
    (x : code.Connection)
    → get nat_eq live n ≡ None → Changed live live' n (Some x) → IsUnique nat_eq live'
    → GetsNumber e f (end.Ap x.ap) x.peer n → Enters g h x.peer n → is_far x.peer ≡ true
    → IsIdle x → AreKept live e old g → AreKept live' f old h
all-added live live' e f old g h n x free more s got enter beyond idle k = record {
  maps = kept-added live live' e f old n x free more s got beyond idle k.maps;
  grouped = grouped-added live live' g h n x free more enter k.grouped;
}

-- what was added is taken back
pub all-undone : (live : Live) (e f : Ends) (old : List End) (g h o : List (List ℕ)) (at : End)
    (n : ℕ) → get nat_eq live n ≡ None → KeepsNumbers e f → Enters g h at n → Leaves h o at n
    → AreKept live e old g → AreKept live f old o
all-undone live e f old g h o at n free keeps enter leave k = record {
  maps = kept-numbers live e f old keeps k.maps;
  grouped = enters-leaves live g h o at n free enter leave k.grouped;
}

-- ---- what is looked up

-- the connection with a number is wired to the interface
abbrev is_one_at : ℕ → List Connection → ℕ → Bool
is_one_at i xs = passes_at (is_wired_to i) xs

one-there : (i n : ℕ) (o : Option code.Connection)
    → holds_of (is_wired_to i) (option_map (seen n) o) ≡ true
    → (passes whichever o ≡ true) × (holds_of (is_far_at i) o ≡ true)
one-there i n None is = absurd (cc is)
one-there i n (Some x) is = (refl, (both-true x.wired (is_at i x.peer) is).1)

-- those that are wired to an interface, by its numbers
pub those-at : (live : Live) (ends : Ends) (q : List End) (g : List (List ℕ)) (xs : List Connection)
    (i : ℕ) (ns : List ℕ) → AreKept live ends q g → seen_in_order live.entries ≡ xs
    → ns ≡ numbers_in g i → IsStrictlySortedBy nat_cmp ns
    → filter (passes_at (is_wired_to i) xs) ns
    ≡ map (λ c. c.number) (filter (is_wired_to i) xs)
those-at live ends q g xs i ns k view is sorted =
    same-list (filter (is_one_at i xs) ns) (filter (is_one_at i xs) ks)
    (rising (filter (is_one_at i xs) ns)
    (IsStrictlySortedBy-filter nat_cmp (is_one_at i xs) ns sorted))
    (two-filter (λ n m. n < m) (is_one_at i xs) ks (rises-sorted live.entries k.maps.unique))
    (λ n h.
    let f = in-filter (is_one_at i xs) ns n h in
    filter-in (is_one_at i xs) ks n
    (key-in n (by_number live.entries)
    (ap (passes whichever) (lookup-sorted n live.entries) ∙ (there n f.1).0)) f.1)
    (λ n h.
    let f = in-filter (is_one_at i xs) ks n h in
    filter-in (is_one_at i xs) ns n
    (any-in n ns (ap (stands_in n) is ∙ k.grouped i n ∙ (there n f.1).1)) f.1)
    ∙ those-that (is_wired_to i) ks live.entries xs k.maps.unique view refl
  where
    ks : List ℕ
    ks = keys_of (by_number live.entries)

    there : (n : ℕ) → is_one_at i xs n ≡ true
        → (passes whichever (get nat_eq live n) ≡ true)
        × (holds_of (is_far_at i) (get nat_eq live n) ≡ true)
    there n one =
        one-there i n (get nat_eq live n)
        (sym (ap (holds_of (is_wired_to i)) (finds live xs n (get nat_eq live n) view refl)) ∙ one)

-- a list has members
abbrev has_some : {A : Type 0} → List A → Bool
has_some [] = false
has_some (x ∷ xs) = true

any-filter : {A : Type 0} (test : A → Bool) (xs : List A)
    → list_any test xs ≡ has_some (filter test xs)
any-filter test [] = refl
any-filter {A} test (x ∷ xs) = by (test x) (any-filter test xs)
  where
    by : (b : Bool) → list_any test xs ≡ has_some (filter test xs)
        → (b || list_any test xs) ≡ has_some (cond b (x ∷ filter test xs) (filter test xs))
    by true later = refl
    by false later = later

some-mapped : {A B : Type 0} (f : A → B) (xs : List A) → has_some (map f xs) ≡ has_some xs
some-mapped f [] = refl
some-mapped f (x ∷ xs) = refl

-- whether one is wired to it
pub any-at : (live : Live) (ends : Ends) (q : List End) (g : List (List ℕ)) (xs : List Connection)
    (i : ℕ) (ns : List ℕ) → AreKept live ends q g → seen_in_order live.entries ≡ xs
    → ns ≡ numbers_in g i → IsStrictlySortedBy nat_cmp ns
    → list_any (passes_at (is_wired_to i) xs) ns ≡ list_any (is_wired_to i) xs
any-at live ends q g xs i ns k view is sorted =
    any-filter (is_one_at i xs) ns
    ∙ ap has_some (those-at live ends q g xs i ns k view is sorted)
    ∙ some-mapped (λ c. c.number) (filter (is_wired_to i) xs)
    ∙ sym (any-filter (is_wired_to i) xs)
