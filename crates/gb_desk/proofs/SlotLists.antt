-- Lists of slots, and the numbers of the requests that they have.
use Rattle.std.proofs.Common.{◌≡◌, ◌≢◌, ◌⊎◌, ℕ, zero, suc, ◌+◌, ◌<◌, ◌≤◌, inl, inr, ⊎_elim}
use Rattle.std.proofs.Common.{Bool, true, false, Option, Some, None, List, [], ◌∷◌, map, length}
use Rattle.std.proofs.Common.{refl, sym, ap, ◌∙◌, arith}
use Rattle.std.proofs.lemmas.Bool.{cases_lt}
use Rattle.std.proofs.lemmas.Bool.Decides.{nat_tests}
use Rattle.std.specs.Prelude.{◌==◌, if◌then◌else◌, option_map, replicate, slice_set}
use Rattle.std.specs.List.{slice_get}
use Rattle.gb_base.specs.declared.entry.Entry.{Entry}
use Rattle.gb_desk.proofs.Holding.{hit_other}
use Rattle.gb_desk.specs.Slots.{AreKept, AreUnusedFrom, all_noted, hit, inner, noted, numbers_of}
use Rattle.gb_desk.specs.Slots.{slot_at, times, told_by}
use Rattle.gb_desk.specs.declared.slots.Slot.{Slot}
use Rattle.gb_desk.specs.declared.slots.Told.{Told}
use Rattle.gb_laws.specs.Tickets.{end_in}
use Rattle.gb_machine.specs.Bus.{or_else}
use Rattle.gb_machine.specs.Members.{IsIn}

-- ---- members of lists

pub get_set_same : {A : Type 0} (xs : List A) (i : ℕ) (x : A) → i < length xs
    → slice_get (slice_set xs i x) i ≡ Some x
get_set_same [] i x within = absurd (omega arith)
get_set_same (y ∷ ys) zero x within = refl
get_set_same (y ∷ ys) (suc i) x within = get_set_same ys i x (omega arith)

pub get_set_other : {A : Type 0} (xs : List A) (i j : ℕ) (x : A) → j ≢ i
    → slice_get (slice_set xs i x) j ≡ slice_get xs j
get_set_other [] i j x apart = refl
get_set_other (y ∷ ys) zero zero x apart = absurd (apart refl)
get_set_other (y ∷ ys) zero (suc j) x apart = refl
get_set_other (y ∷ ys) (suc i) zero x apart = refl
get_set_other (y ∷ ys) (suc i) (suc j) x apart =
    get_set_other ys i j x (λ same. apart (ap suc same))

pub set_as_long : {A : Type 0} (xs : List A) (i : ℕ) (x : A)
    → length (slice_set xs i x) ≡ length xs
set_as_long [] i x = refl
set_as_long (y ∷ ys) zero x = refl
set_as_long (y ∷ ys) (suc i) x = ap suc (set_as_long ys i x)

pub map_as_long : {A B : Type 0} (f : A → B) (xs : List A) → length (map f xs) ≡ length xs
map_as_long f [] = refl
map_as_long f (x ∷ xs) = ap suc (map_as_long f xs)

-- a list with another member at each place
pub map_by_places : {A : Type 0} (f : A → A) (xs ys : List A)
    → ((k : ℕ) → slice_get ys k ≡ option_map f (slice_get xs k)) → ys ≡ map f xs
map_by_places f [] [] same = refl
map_by_places f [] (y ∷ ys) same = absurd (let at = same 0 in cc)
map_by_places f (x ∷ xs) [] same = absurd (let at = same 0 in cc)
map_by_places f (x ∷ xs) (y ∷ ys) same =
    let at : y ≡ f x = (let is = same 0 in cc) in
    let rest = map_by_places f xs ys (λ k. same (suc k)) in
    λ i. at i ∷ rest i

-- ---- slots

pub slot_same : (slots : List (Option Slot)) (i : ℕ) (o : Option Slot) → i < length slots
    → slot_at i (slice_set slots i o) ≡ o
slot_same slots i o within = ap inner (get_set_same slots i o within)

pub slot_other : (slots : List (Option Slot)) (i j : ℕ) (o : Option Slot) → j ≢ i
    → slot_at j (slice_set slots i o) ≡ slot_at j slots
slot_other slots i j o apart = ap inner (get_set_other slots i j o apart)

pub slot_noted : (es : List Entry) (slots : List (Option Slot)) (i : ℕ)
    → slot_at i (all_noted es slots) ≡ option_map (noted es) (slot_at i slots)
slot_noted es [] i = refl
slot_noted es (x ∷ xs) zero = refl
slot_noted es (x ∷ xs) (suc i) = slot_noted es xs i

-- ---- slots from one on that had no request

unused_noted : (es : List Entry) (o : Option (Option Slot)) → inner o ≡ None
    → o ≡ option_map (option_map (noted es)) o
unused_noted es None is = refl
unused_noted es (Some None) is = refl
unused_noted es (Some (Some x)) is = absurd cc

-- the first ones were told, and the others had none
pub first_noted : (es : List Entry) (xs ys : List (Option Slot)) (n : ℕ) → AreUnusedFrom n xs
    → ((k : ℕ) → k < n → slice_get ys k ≡ option_map (option_map (noted es)) (slice_get xs k))
    → ((k : ℕ) → n ≤ k → slice_get ys k ≡ slice_get xs k) → ys ≡ all_noted es xs
first_noted es xs ys n unused low high =
    map_by_places (option_map (noted es)) xs ys (λ k.
    ⊎_elim (λ (below : k < n). low k below)
    (λ (above : n ≤ k). high k above ∙ unused_noted es (slice_get xs k) (unused k above))
    (cases_lt k n))

none_yet : (n i : ℕ) → slot_at i (replicate n None) ≡ None
none_yet zero i = refl
none_yet (suc n) zero = refl
none_yet (suc n) (suc i) = none_yet n i

pub kept_new : AreKept (replicate 256 None) 0
kept_new = record { long = refl; within = omega arith; unused = λ i low. none_yet 256 i }

pub kept_put : (slots : List (Option Slot)) (used at more : ℕ) (o : Option Slot)
    → AreKept slots used → at < 256 → used ≤ more → at < more → more ≤ 256
    → AreKept (slice_set slots at o) more
kept_put slots used at more o kept within longer behind most = record {
  long = set_as_long slots at o ∙ kept.long;
  within = most;
  unused = λ i high.
      slot_other slots at i o (λ (same : i ≡ at). omega arith) ∙ kept.unused i (omega arith);
}

pub kept_noted : (es : List Entry) (slots : List (Option Slot)) (used : ℕ) → AreKept slots used
    → AreKept (all_noted es slots) used
kept_noted es slots used kept = record {
  long = map_as_long (option_map (noted es)) slots ∙ kept.long;
  within = kept.within;
  unused = λ i high.
      slot_noted es slots i ∙ ap (option_map (noted es)) (kept.unused i high);
}

-- ---- numbers

pub numbers_noted : (es : List Entry) (slots : List (Option Slot))
    → numbers_of (all_noted es slots) ≡ numbers_of slots
numbers_noted es [] = refl
numbers_noted es (None ∷ xs) = numbers_noted es xs
numbers_noted es (Some x ∷ xs) = ap (λ ns. x.number ∷ ns) (numbers_noted es xs)

-- the request of a slot is one of them
pub slot_number : (slots : List (Option Slot)) (i : ℕ) (x : Slot) → slot_at i slots ≡ Some x
    → IsIn x.number (numbers_of slots)
slot_number [] i x is = absurd cc
slot_number (None ∷ xs) zero x is = absurd cc
slot_number (Some y ∷ xs) zero x is =
    let same : y ≡ x = cc in inl (ap (λ (z : Slot). z.number) (sym same))
slot_number (None ∷ xs) (suc i) x is = slot_number xs i x is
slot_number (Some y ∷ xs) (suc i) x is = inr (slot_number xs i x is)

-- each of them has a slot
pub record HasSlot (slots : List (Option Slot)) (n : ℕ) : Type 0 where
  pub place : ℕ
  pub within : place < length slots
  pub slot : Slot
  pub there : slot_at place slots ≡ Some slot
  pub number : slot.number ≡ n

one_later : (slots : List (Option Slot)) (n : ℕ) (o : Option Slot) → HasSlot slots n
    → HasSlot (o ∷ slots) n
one_later slots n o h =
    let low = h.within in
    record {
      place = suc h.place;
      within = omega arith;
      slot = h.slot;
      there = h.there;
      number = h.number;
    }

pub number_slot : (slots : List (Option Slot)) (n : ℕ) → IsIn n (numbers_of slots)
    → HasSlot slots n
number_slot [] n i = absurd i
number_slot (None ∷ xs) n i = one_later xs n None (number_slot xs n i)
number_slot (Some x ∷ xs) n (inl is) =
    record { place = 0; within = omega arith; slot = x; there = refl; number = sym is }
number_slot (Some x ∷ xs) n (inr i) = one_later xs n (Some x) (number_slot xs n i)

-- one that is not of a slot stays when that slot is given away
pub number_stays : (slots : List (Option Slot)) (i n : ℕ) (o : Option Slot)
    → ((x : Slot) → slot_at i slots ≡ Some x → x.number ≢ n) → IsIn n (numbers_of slots)
    → IsIn n (numbers_of (slice_set slots i o))
number_stays [] i n o other there = there
number_stays (None ∷ xs) zero n None other there = there
number_stays (None ∷ xs) zero n (Some y) other there = inr there
number_stays (Some x ∷ xs) zero n o other (inl is) = absurd (other x refl (sym is))
number_stays (Some x ∷ xs) zero n None other (inr there) = there
number_stays (Some x ∷ xs) zero n (Some y) other (inr there) = inr there
number_stays (None ∷ xs) (suc i) n o other there = number_stays xs i n o other there
number_stays (Some x ∷ xs) (suc i) n o other (inl is) = inl is
number_stays (Some x ∷ xs) (suc i) n o other (inr there) =
    inr (number_stays xs i n o other there)

-- those of slots of which one was given away
pub number_set : (slots : List (Option Slot)) (i n : ℕ) (y : Slot)
    → IsIn n (numbers_of (slice_set slots i (Some y))) → (n ≡ y.number) ⊎ IsIn n (numbers_of slots)
number_set [] i n y there = inr there
number_set (None ∷ xs) zero n y (inl is) = inl is
number_set (None ∷ xs) zero n y (inr there) = inr there
number_set (Some x ∷ xs) zero n y (inl is) = inl is
number_set (Some x ∷ xs) zero n y (inr there) = inr (inr there)
number_set (None ∷ xs) (suc i) n y there = number_set xs i n y there
number_set (Some x ∷ xs) (suc i) n y (inl is) = inr (inl is)
number_set (Some x ∷ xs) (suc i) n y (inr there) =
    ⊎_elim (λ a. inl a) (λ b. inr (inr b)) (number_set xs i n y there)

pub times_set : (slots : List (Option Slot)) (i n : ℕ) (y : Slot)
    → times n (numbers_of (slice_set slots i (Some y)))
    ≤ hit n y.number + times n (numbers_of slots)
times_set [] i n y = omega arith
times_set (None ∷ xs) zero n y = omega arith
times_set (Some x ∷ xs) zero n y = omega arith
times_set (None ∷ xs) (suc i) n y = times_set xs i n y
times_set (Some x ∷ xs) (suc i) n y = let later = times_set xs i n y in omega arith

pub times_none : (n : ℕ) (ns : List ℕ) → (IsIn n ns → ⊥) → times n ns ≡ 0
times_none n [] none = refl
times_none n (m ∷ ms) none =
    let here = hit_other n m (λ is. none (inl (sym is))) in
    let later = times_none n ms (λ i. none (inr i)) in omega arith

-- ---- how many

-- where each slot has a request, there are as many
pub all_numbers : (slots : List (Option Slot))
    → ((i : ℕ) → i < length slots → (x : Slot) × (slot_at i slots ≡ Some x))
    → length (numbers_of slots) ≡ length slots
all_numbers [] each = refl
all_numbers (None ∷ xs) each = absurd (let at = (each 0 (omega arith)).1 in cc)
all_numbers (Some x ∷ xs) each =
    ap suc (all_numbers xs (λ i within. each (suc i) (omega arith)))

numbers_most : (slots : List (Option Slot)) → length (numbers_of slots) ≤ length slots
numbers_most [] = omega arith
numbers_most (None ∷ xs) = let later = numbers_most xs in omega arith
numbers_most (Some x ∷ xs) = let later = numbers_most xs in omega arith

-- where one slot has none, there are fewer
pub numbers_fewer : (slots : List (Option Slot)) (i : ℕ) → i < length slots
    → length (numbers_of (slice_set slots i None)) < length slots
numbers_fewer [] i within = absurd (omega arith)
numbers_fewer (None ∷ xs) zero within = let later = numbers_most xs in omega arith
numbers_fewer (Some x ∷ xs) zero within = let later = numbers_most xs in omega arith
numbers_fewer (None ∷ xs) (suc i) within =
    let later = numbers_fewer xs i (omega arith) in omega arith
numbers_fewer (Some x ∷ xs) (suc i) within =
    let later = numbers_fewer xs i (omega arith) in omega arith

-- a list without a number
minus : ℕ → List ℕ → List ℕ
minus m [] = []
minus m (n ∷ ns) = if n == m then minus m ns else n ∷ minus m ns

minus_long : (m : ℕ) (ns : List ℕ) → length (minus m ns) + times m ns ≡ length ns
unfolding minus
minus_long m [] = refl
minus_long m (n ∷ ns) = by (n == m) refl (minus_long m ns)
  where
    by : (b : Bool) → (n == m) ≡ b → length (minus m ns) + times m ns ≡ length ns
        → length (if b then minus m ns else n ∷ minus m ns) + (hit m n + times m ns)
        ≡ length (n ∷ ns)
    by true is rec = let one : hit m n ≡ 1 = ap (λ b. if b then 1 else 0) is in omega arith
    by false is rec = let none : hit m n ≡ 0 = ap (λ b. if b then 1 else 0) is in omega arith

minus_times : (m k : ℕ) (ns : List ℕ) → times k (minus m ns) ≤ times k ns
unfolding minus
minus_times m k [] = omega arith
minus_times m k (n ∷ ns) = by (n == m) (minus_times m k ns)
  where
    by : (b : Bool) → times k (minus m ns) ≤ times k ns
        → times k (if b then minus m ns else n ∷ minus m ns) ≤ hit k n + times k ns
    by true rec = omega arith
    by false rec = omega arith

minus_in : (m k : ℕ) (ns : List ℕ) → IsIn k (minus m ns) → IsIn k ns × (k ≢ m)
unfolding minus
minus_in m k [] i = absurd i
minus_in m k (n ∷ ns) i = by (n == m) refl i (minus_in m k ns)
  where
    by : (b : Bool) → (n == m) ≡ b → IsIn k (if b then minus m ns else n ∷ minus m ns)
        → (IsIn k (minus m ns) → IsIn k ns × (k ≢ m)) → IsIn k (n ∷ ns) × (k ≢ m)
    by true is j rec = let r = rec j in (inr r.0, r.1)
    by false is (inl e) rec = (inl e, λ same. grind (arith, nat_tests))
    by false is (inr j) rec = let r = rec j in (inr r.0, r.1)

-- different numbers of a list are no more than it has
pub no_more : (ns ms : List ℕ) → ((n : ℕ) → times n ns ≤ 1)
    → ((n : ℕ) → IsIn n ns → IsIn n ms) → length ns ≤ length ms
no_more [] [] once within = omega arith
no_more (n ∷ ns) [] once within = absurd (within n (inl refl))
no_more ns (m ∷ ms) once within =
    let long = minus_long m ns in
    let one = once m in
    let rec = no_more (minus m ns) ms
    (λ k. (let fewer = minus_times m k ns in let most = once k in omega arith))
    (λ k i. (let r = minus_in m k ns i in
    ⊎_elim (λ same. absurd (r.1 same)) (λ later. later) (within k r.0))) in omega arith

-- ---- where no end is told

same_told : (x : Slot) (o : Option Told) → o ≡ x.told → or_else o None ≡ x.told
same_told x None is = is
same_told x (Some told) is = is

-- slots that learn nothing stay as they are
pub none_noted : (es : List Entry) → ((n : ℕ) → end_in n es ≡ None) → (slots : List (Option Slot))
    → all_noted es slots ≡ slots
none_noted es none [] = refl
none_noted es none (None ∷ xs) = ap (λ l. None ∷ l) (none_noted es none xs)
none_noted es none (Some x ∷ xs) =
    let told : or_else x.told (told_by (end_in x.number es)) ≡ x.told =
    ap (λ o. or_else x.told (told_by o)) (none x.number) ∙ same_told x x.told refl in
    ap (λ t. Some (record x { told = t }) ∷ all_noted es xs) told
    ∙ ap (λ l. Some x ∷ l) (none_noted es none xs)
