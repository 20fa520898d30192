-- What is found by number in places, and what changes of them come to.
use Rattle.std.proofs.Common.{◌≡◌, ◌≢◌, ◌<◌, ◌≤◌, ℕ, zero, suc, Bool, true, false, cond, ◌⊎◌, inl}
use Rattle.std.proofs.Common.{inr, Option, Some, None, is_some, List, [], ◌∷◌, ◌++◌, length, take}
use Rattle.std.proofs.Common.{drop, eqb, ltb, slice_set, refl, sym, ap, subst, ◌∙◌, arith, Less}
use Rattle.std.proofs.lemmas.Bool.{cases_eq}
use Rattle.std.proofs.lemmas.Bool.Decides.{nat_tests}
use Rattle.std.proofs.lemmas.List.{append-nil, take-append-drop}
use Rattle.std.specs.BTreeMap.{is_at}
use Rattle.std.specs.List.{AllByRecursion, AllWithin, filter}
use Rattle.std.specs.List.Sorted.{IsStrictlySortedBy}
use Rattle.std.specs.Map.{keys_of}
use Rattle.std.specs.Ordering.{nat_cmp}
use Rattle.std.specs.Prelude.{IsSome, insert, slice_index_or}
use Rattle.gb_table.specs.Table.{Puts}
use Rattle.gb_ops.proofs.Maps.{key_other, key_same}
use Rattle.gb_ops.specs.Finding.{IsLeast, TellsIdle}
use Rattle.gb_ops.specs.Places.{AllAbove, AllBelow, IsAt, IsInOrder, IsNowhere, NoneBelow, Rises}
use Rattle.gb_ops.specs.Places.{StartsEmpty, StartsOpen, is_open, opened, pending_among as at}
use Rattle.gb_ops.specs.Places.{request_at, with_request}
use Rattle.gb_ops.specs.declared.entries.Pending.{Pending}
use Rattle.gb_ops.specs.declared.open_list.Place.{Place}

-- a place with a number
abbrev pub place : ℕ → Option Pending → Place
place n w = record { number = n; request = w }

-- ---- where a number isn't

nowhere-above : (m n : ℕ) (ps : List Place) → n ≤ m → AllAbove m ps → IsNowhere n ps
nowhere-above m n [] le above = tt
nowhere-above m n (p ∷ ps) le above = (
  λ e. (let low = above.0 in absurd (omega (arith, low, le, e))),
  nowhere-above m n ps le above.1,
)

pub nowhere-below : (n : ℕ) (ps : List Place) → AllBelow n ps → IsNowhere n ps
nowhere-below n [] below = tt
nowhere-below n (p ∷ ps) below =
    (λ e. (let low = below.0 in absurd (omega (arith, low, e))), nowhere-below n ps below.1)

pub absent : (q : ℕ) (ps : List Place) → IsNowhere q ps → at (opened ps) q ≡ None
absent q [] nowhere = refl
absent q (p ∷ ps) nowhere = by p.request (absent q ps nowhere.1)
  where
    by : (w : Option Pending) → at (opened ps) q ≡ None
        → at (with_request p.number w (opened ps)) q ≡ None
    by None rest = rest
    by (Some x) rest =
        ap (λ t. cond t (Some x) (at (opened ps) q))
        (key_other q p.number (λ e. nowhere.0 (sym e))) ∙ rest

-- ---- what is found in places, be they empty or not

abbrev found : List Place → ℕ → Option Pending
found [] q = None
found (p ∷ ps) q = cond (is_at (nat_cmp q) p.number) p.request (found ps q)

seen : (ps : List Place) (q : ℕ) → Rises ps → at (opened ps) q ≡ found ps q
seen [] q r = refl
seen (p ∷ ps) q r = by p.request (cases_eq q p.number) (seen ps q r.1)
  where
    by : (w : Option Pending) → (q ≡ p.number) ⊎ (q ≡ p.number → ⊥) → at (opened ps) q ≡ found ps q
        → at (with_request p.number w (opened ps)) q
        ≡ cond (is_at (nat_cmp q) p.number) w (found ps q)
    by (Some x) either same = ap (cond (is_at (nat_cmp q) p.number) (Some x)) same
    by None (inl e) same =
        absent q ps (nowhere-above p.number q ps (omega (arith, e)) r.0)
        ∙ ap (λ t. cond t None (found ps q)) (sym (key_same q p.number e))
    by None (inr ne) same =
        same ∙ ap (λ t. cond t None (found ps q)) (sym (key_other q p.number ne))

puts-seen : (ps qs : List Place) (n : ℕ) (w : Option Pending) → Rises ps → Rises qs
    → Puts (found ps) (found qs) n w → Puts (at (opened ps)) (at (opened qs)) n w
puts-seen ps qs n w r s u = record {
  here = seen qs n s ∙ u.here;
  others = λ q ne. seen qs q s ∙ u.others q ne ∙ sym (seen ps q r);
}

puts-behind : (p : Place) (ps qs : List Place) (n : ℕ) (w : Option Pending) → p.number ≢ n
    → Puts (found ps) (found qs) n w → Puts (found (p ∷ ps)) (found (p ∷ qs)) n w
puts-behind p ps qs n w ne u = record {
  here = ap (λ t. cond t p.request (found qs n)) (key_other n p.number (λ e. ne (sym e))) ∙ u.here;
  others = λ q other. ap (cond (is_at (nat_cmp q) p.number) p.request) (u.others q other);
}

-- ---- the place of a number has something else

above-at : (m n i : ℕ) (ps : List Place) → AllAbove m ps → IsAt ps i n → m < n
above-at m n i [] above is = absurd is
above-at m n zero (p ∷ ps) above is = let low = above.0 in omega (arith, low, is)
above-at m n (suc i) (p ∷ ps) above is = above-at m n i ps above.1 is

-- the number of the first isn't that of a later one
apart : (p : Place) (n i : ℕ) (ps : List Place) → AllAbove p.number ps → IsAt ps i n
    → p.number ≢ n
apart p n i ps above is e =
    let low = above-at p.number n i ps above is in absurd (omega (arith, low, e))

puts-at : (ps : List Place) (i n : ℕ) (w : Option Pending) → Rises ps → IsAt ps i n
    → Puts (found ps) (found (slice_set ps i (place n w))) n w
puts-at [] i n w r is = absurd is
puts-at (p ∷ ps) zero n w r is = record {
  here = ap (λ t. cond t w (found ps n)) (key_same n n refl);
  others = λ q ne.
      ap (λ t. cond t w (found ps q)) (key_other q n ne)
      ∙ sym (ap (λ t. cond t p.request (found ps q)) (key_other q p.number (λ e. ne (e ∙ is))));
}
puts-at (p ∷ ps) (suc i) n w r is =
    puts-behind p ps (slice_set ps i (place n w)) n w (apart p n i ps r.0 is)
    (puts-at ps i n w r.1 is)

above-set : (m n i : ℕ) (ps : List Place) (w : Option Pending) → AllAbove m ps → IsAt ps i n
    → AllAbove m (slice_set ps i (place n w))
above-set m n i [] w above is = absurd is
above-set m n zero (p ∷ ps) w above is =
    (let low = above.0 in omega (arith, low, is), above.1)
above-set m n (suc i) (p ∷ ps) w above is = (above.0, above-set m n i ps w above.1 is)

pub rises-set : (ps : List Place) (i n : ℕ) (w : Option Pending) → Rises ps → IsAt ps i n
    → Rises (slice_set ps i (place n w))
rises-set [] i n w r is = absurd is
rises-set (p ∷ ps) zero n w r is = (subst (λ k. AllAbove k ps) is r.0, r.1)
rises-set (p ∷ ps) (suc i) n w r is =
    (above-set p.number n i ps w r.0 is, rises-set ps i n w r.1 is)

starts-set : (ps : List Place) (i n : ℕ) (x : Pending) → StartsOpen ps → IsAt ps i n
    → StartsOpen (slice_set ps i (place n (Some x)))
starts-set [] i n x s is = absurd is
starts-set (p ∷ ps) zero n x s is = refl
starts-set (p ∷ ps) (suc i) n x s is = s

pub puts-set : (ps : List Place) (i n : ℕ) (w : Option Pending) → Rises ps → IsAt ps i n
    → Puts (at (opened ps)) (at (opened (slice_set ps i (place n w)))) n w
puts-set ps i n w r is =
    puts-seen ps (slice_set ps i (place n w)) n w r (rises-set ps i n w r is)
    (puts-at ps i n w r is)

pub order-set : (ps : List Place) (i n : ℕ) (x : Pending) → IsInOrder ps → IsAt ps i n
    → IsInOrder (slice_set ps i (place n (Some x)))
order-set ps i n x o is = record {
  rises = rises-set ps i n (Some x) o.rises is;
  starts = starts-set ps i n x o.starts is;
}

-- the request in a place is that of its number
found-at : (ps : List Place) (i n : ℕ) → Rises ps → IsAt ps i n → request_at ps i ≡ found ps n
found-at [] i n r is = absurd is
found-at (p ∷ ps) zero n r is =
    sym (ap (λ t. cond t p.request (found ps n)) (key_same n p.number (sym is)))
found-at (p ∷ ps) (suc i) n r is =
    found-at ps i n r.1 is
    ∙ sym (ap (λ t. cond t p.request (found ps n))
    (key_other n p.number (λ e. apart p n i ps r.0 is (sym e))))

pub seen-at : (ps : List Place) (i n : ℕ) → Rises ps → IsAt ps i n
    → request_at ps i ≡ at (opened ps) n
seen-at ps i n r is = found-at ps i n r is ∙ sym (seen ps n r)

-- the first place is let go
pub puts-rest : (ps : List Place) (n : ℕ) → Rises ps → IsAt ps 0 n
    → Puts (at (opened ps)) (at (opened (drop 1 ps))) n None
puts-rest [] n r is = absurd is
puts-rest (p ∷ ps) n r is = puts-set (p ∷ ps) 0 n None r is

-- it isn't empty
pub first-open : (ps : List Place) (n : ℕ) → StartsOpen ps → IsAt ps 0 n
    → request_at ps 0 ≡ None → ⊥
first-open [] n s is none = is
first-open (p ∷ ps) n s is none = absurd (cc (s, ap is_some none))

-- ---- a place comes between others

puts-new : (fs gs : List Place) (n : ℕ) (w : Option Pending) → AllBelow n fs
    → Puts (found (fs ++ gs)) (found (fs ++ place n w ∷ gs)) n w
puts-new [] gs n w below = record {
  here = ap (λ t. cond t w (found gs n)) (key_same n n refl);
  others = λ q ne. ap (λ t. cond t w (found gs q)) (key_other q n ne);
}
puts-new (f ∷ fs) gs n w below =
    puts-behind f (fs ++ gs) (fs ++ place n w ∷ gs) n w
    (λ e. (let low = below.0 in absurd (omega (arith, low, e)))) (puts-new fs gs n w below.1)

above-new : (m n : ℕ) (fs gs : List Place) (w : Option Pending) → AllAbove m (fs ++ gs) → m < n
    → AllAbove m (fs ++ place n w ∷ gs)
above-new m n [] gs w above low = (low, above)
above-new m n (f ∷ fs) gs w above low = (above.0, above-new m n fs gs w above.1 low)

rises-new : (fs gs : List Place) (n : ℕ) (w : Option Pending) → Rises (fs ++ gs)
    → AllBelow n fs → AllAbove n gs → Rises (fs ++ place n w ∷ gs)
rises-new [] gs n w r below above = (above, r)
rises-new (f ∷ fs) gs n w r below above =
    (above-new f.number n fs gs w r.0 below.0, rises-new fs gs n w r.1 below.1 above)

starts-new : (fs gs : List Place) (n : ℕ) (x : Pending) → StartsOpen (fs ++ gs)
    → StartsOpen (fs ++ place n (Some x) ∷ gs)
starts-new [] gs n x s = refl
starts-new (f ∷ fs) gs n x s = s

-- a request is open that wasn't
pub record IsEntered (ps qs : List Place) (n : ℕ) (x : Pending) : Type 0 where
  pub order : IsInOrder qs
  pub puts : Puts (at (opened ps)) (at (opened qs)) n (Some x)
  pub absent : at (opened ps) n ≡ None

enters : (fs gs : List Place) (n : ℕ) (x : Pending) → IsInOrder (fs ++ gs) → AllBelow n fs
    → AllAbove n gs → IsNowhere n (fs ++ gs)
    → IsEntered (fs ++ gs) (fs ++ place n (Some x) ∷ gs) n x
enters fs gs n x o below above nowhere =
    let rises = rises-new fs gs n (Some x) o.rises below above in
    record {
      order = record { rises = rises; starts = starts-new fs gs n x o.starts };
      puts = puts-seen (fs ++ gs) (fs ++ place n (Some x) ∷ gs) n (Some x) o.rises rises
          (puts-new fs gs n (Some x) below);
      absent = absent n (fs ++ gs) nowhere;
    }

-- behind all
pub enters-last : (ps : List Place) (n : ℕ) (x : Pending) → IsInOrder ps → AllBelow n ps
    → IsEntered ps (ps ++ place n (Some x) ∷ []) n x
enters-last ps n x o below =
    subst (λ qs. IsEntered qs (ps ++ place n (Some x) ∷ []) n x) (append-nil ps)
    (enters ps [] n x (subst IsInOrder (sym (append-nil ps)) o) below tt
    (subst (IsNowhere n) (sym (append-nil ps)) (nowhere-below n ps below)))

-- none is less and none is the same, so all are greater
all-above : (n : ℕ) (ps : List Place) → NoneBelow n ps → IsNowhere n ps → AllAbove n ps
all-above n [] none nowhere = tt
all-above n (p ∷ ps) none nowhere =
    (above n p.number none.0 nowhere.0, all-above n ps none.1 nowhere.1)
  where
    above : (a b : ℕ) → a ≤ b → b ≢ a → a < b
    above a b le ne = grind (arith, nat_tests)

nowhere-drop : (n i : ℕ) (ps : List Place) → IsNowhere n ps → IsNowhere n (drop i ps)
nowhere-drop n zero ps nowhere = nowhere
nowhere-drop n (suc i) [] nowhere = tt
nowhere-drop n (suc i) (p ∷ ps) nowhere = nowhere-drop n i ps nowhere.1

-- or between others
pub enters-among : (ps : List Place) (i n : ℕ) (x : Pending) → IsInOrder ps
    → AllBelow n (take i ps) → NoneBelow n (drop i ps) → IsNowhere n ps
    → IsEntered ps (insert ps i (place n (Some x))) n x
enters-among ps i n x o below none nowhere =
    subst (λ qs. IsEntered qs (insert ps i (place n (Some x))) n x) whole
    (enters (take i ps) (drop i ps) n x (subst IsInOrder (sym whole) o) below
    (all-above n (drop i ps) none (nowhere-drop n i ps nowhere))
    (subst (IsNowhere n) (sym whole) nowhere))
  where
    whole : take i ps ++ drop i ps ≡ ps
    whole = take-append-drop i ps

-- ---- empty places are let go

pub opened-rest : (ps : List Place) → StartsEmpty ps → opened (drop 1 ps) ≡ opened ps
opened-rest [] e = absurd e
opened-rest (p ∷ ps) e = sym (ap (λ w. with_request p.number w (opened ps)) e)

pub rises-rest : (ps : List Place) → Rises ps → Rises (drop 1 ps)
rises-rest [] r = tt
rises-rest (p ∷ ps) r = r.1

pub opened-filter : (ps : List Place) → opened (filter is_open ps) ≡ opened ps
opened-filter [] = refl
opened-filter (p ∷ ps) = by p.request refl (opened-filter ps)
  where
    by : (w : Option Pending) → p.request ≡ w → opened (filter is_open ps) ≡ opened ps
        → opened (cond (is_some w) (p ∷ filter is_open ps) (filter is_open ps))
        ≡ with_request p.number p.request (opened ps)
    by None e same = same ∙ sym (ap (λ w. with_request p.number w (opened ps)) e)
    by (Some x) e same = ap (with_request p.number p.request) same

above-filter : (m : ℕ) (ps : List Place) → AllAbove m ps → AllAbove m (filter is_open ps)
above-filter m [] above = tt
above-filter m (p ∷ ps) above = by (is_open p) (above-filter m ps above.1)
  where
    by : (t : Bool) → AllAbove m (filter is_open ps)
        → AllAbove m (cond t (p ∷ filter is_open ps) (filter is_open ps))
    by true rest = (above.0, rest)
    by false rest = rest

rises-filter : (ps : List Place) → Rises ps → Rises (filter is_open ps)
rises-filter [] r = tt
rises-filter (p ∷ ps) r = by (is_open p) (rises-filter ps r.1)
  where
    by : (t : Bool) → Rises (filter is_open ps)
        → Rises (cond t (p ∷ filter is_open ps) (filter is_open ps))
    by true rest = (above-filter p.number ps r.0, rest)
    by false rest = rest

starts-filter : (ps : List Place) → StartsOpen (filter is_open ps)
starts-filter [] = tt
starts-filter (p ∷ ps) = by (is_open p) refl (starts-filter ps)
  where
    by : (t : Bool) → is_open p ≡ t → StartsOpen (filter is_open ps)
        → StartsOpen (cond t (p ∷ filter is_open ps) (filter is_open ps))
    by true e rest = e
    by false e rest = rest

pub order-filter : (ps : List Place) → Rises ps → IsInOrder (filter is_open ps)
order-filter ps r = record { rises = rises-filter ps r; starts = starts-filter ps }

-- ---- by places

pub same-number : (a b : ℕ) → eqb a b ≡ true → a ≡ b
same-number a b e = grind (arith, nat_tests)

pub place-from : (ps : List Place) (i n : ℕ) (p : Place) → i < length ps
    → p ≡ slice_index_or ps i p → p.number ≡ n → IsAt ps i n
place-from [] i n p less is e = absurd (omega (arith, less))
place-from (q ∷ ps) zero n p less is e = ap (λ x. x.number) (sym is) ∙ e
place-from (q ∷ ps) (suc i) n p less is e = place-from ps i n p (omega (arith, less)) is e

pub number-from : (ps : List Place) (i n : ℕ) (p : Place) → p ≡ slice_index_or ps i p
    → IsAt ps i n → p.number ≡ n
number-from [] i n p is here = absurd here
number-from (q ∷ ps) zero n p is here = ap (λ x. x.number) is ∙ here
number-from (q ∷ ps) (suc i) n p is here = number-from ps i n p is here

pub place-inside : (ps : List Place) (i n : ℕ) → IsAt ps i n → i < length ps
place-inside [] i n is = absurd is
place-inside (p ∷ ps) zero n is = omega arith
place-inside (p ∷ ps) (suc i) n is = let less = place-inside ps i n is in omega (arith, less)

-- a number that isn't where it should be is nowhere
pub nowhere-parted : (ps : List Place) (i n : ℕ) → Rises ps → AllBelow n (take i ps)
    → NoneBelow n (drop i ps) → (IsAt ps i n → ⊥) → IsNowhere n ps
nowhere-parted [] i n r below none other = tt
nowhere-parted (p ∷ ps) zero n r below none other =
    (other, nowhere-above p.number n ps none.0 r.0)
nowhere-parted (p ∷ ps) (suc i) n r below none other = (
  λ e. (let low = below.0 in absurd (omega (arith, low, e))),
  nowhere-parted ps i n r.1 below.1 none other,
)

above-place : (m : ℕ) (ps : List Place) (j : ℕ) (d : Place) → AllAbove m ps → j < length ps
    → m < (slice_index_or ps j d).number
above-place m [] j d above less = absurd (omega (arith, less))
above-place m (p ∷ ps) zero d above less = above.0
above-place m (p ∷ ps) (suc j) d above less =
    above-place m ps j d above.1 (omega (arith, less))

-- numbers don't fall from a place to a later one
pub by-places : (ps : List Place) → Rises ps → (i j : ℕ) (d : Place) → i ≤ j → j < length ps
    → (slice_index_or ps i d).number ≤ (slice_index_or ps j d).number
by-places [] r i j d le less = absurd (omega (arith, less))
by-places (p ∷ ps) r zero zero d le less = omega arith
by-places (p ∷ ps) r zero (suc j) d le less =
    let above = above-place p.number ps j d r.0 (omega (arith, less)) in omega (arith, above)
by-places (p ∷ ps) r (suc i) zero d le less = absurd (omega (arith, le))
by-places (p ∷ ps) r (suc i) (suc j) d le less =
    by-places ps r.1 i j d (omega (arith, le)) (omega (arith, less))

below-from : (a b : ℕ) → ltb a b ≡ true → a < b
below-from a b e = grind (arith, nat_tests)

none-below-from : (a b : ℕ) → ltb a b ≡ false → b ≤ a
none-below-from a b e = grind (arith, nat_tests)

below-places : (ps : List Place) (i n : ℕ) → i ≤ length ps
    → ((k : ℕ) (d : Place) → k < i → (slice_index_or ps k d).number < n) → AllBelow n (take i ps)
below-places ps zero n in_bounds h = tt
below-places [] (suc i) n in_bounds h = tt
below-places (p ∷ ps) (suc i) n in_bounds h = (
  h 0 p (omega arith),
  below-places ps i n (omega (arith, in_bounds)) (λ k d less. h (suc k) d (omega (arith, less))),
)

none-below-places : (ps : List Place) (i n : ℕ)
    → ((k : ℕ) (d : Place) → i ≤ k → k < length ps → n ≤ (slice_index_or ps k d).number)
    → NoneBelow n (drop i ps)
none-below-places [] zero n h = tt
none-below-places [] (suc i) n h = tt
none-below-places (p ∷ ps) zero n h = (
  h 0 p (omega arith) (omega arith),
  none-below-places ps zero n
      (λ k d le less. h (suc k) d (omega arith) (omega (arith, less))),
)
none-below-places (p ∷ ps) (suc i) n h =
    none-below-places ps i n
    (λ k d le less. h (suc k) d (omega (arith, le)) (omega (arith, less)))

-- the halves that a test of each place makes
pub parted-below : (ps : List Place) (i n : ℕ) → i ≤ length ps
    → AllWithin (λ p. ltb p.number n ≡ true) ps 0 i → AllBelow n (take i ps)
parted-below ps i n in_bounds h = below-places ps i n in_bounds
    (λ k d less. below-from (slice_index_or ps k d).number n (h k d (omega arith) less))

pub parted-beyond : (ps : List Place) (i n : ℕ)
    → AllWithin (λ p. ltb p.number n ≡ false) ps i (length ps) → NoneBelow n (drop i ps)
parted-beyond ps i n h = none-below-places ps i n
    (λ k d le less. none-below-from (slice_index_or ps k d).number n (h k d le less))

all-below-places : (ps : List Place) (n : ℕ) (p : Place)
    → ((k : ℕ) → k < length ps → (slice_index_or ps k p).number < n) → AllBelow n ps
all-below-places [] n p h = tt
all-below-places (q ∷ ps) n p h =
    (h 0 (omega arith), all-below-places ps n p (λ k less. h (suc k) (omega (arith, less))))

-- where the last is less all are
pub below-last : (ps : List Place) (i n : ℕ) (p : Place) → Rises ps → length ps ≡ suc i
    → p ≡ slice_index_or ps i p → ltb p.number n ≡ true → AllBelow n ps
below-last ps i n p r one is low = all-below-places ps n p (λ k inside.
    let le = by-places ps r k i p (omega (arith, one, inside)) (omega (arith, one)) in
    let same = ap (λ x. x.number) is in
    let less = below-from p.number n low in
    omega (arith, le, same, less))

-- ---- what is open

above-keys : (n : ℕ) (ps : List Place) → AllAbove n ps
    → AllByRecursion (λ y. nat_cmp n y ≡ Less) (keys_of (opened ps))
above-keys n [] above = tt
above-keys n (p ∷ ps) above = by p.request (above-keys n ps above.1)
  where
    less : (a b : ℕ) → a < b → nat_cmp a b ≡ Less
    less a b low = grind (arith, nat_tests)

    by : (w : Option Pending) → AllByRecursion (λ y. nat_cmp n y ≡ Less) (keys_of (opened ps))
        → AllByRecursion (λ y. nat_cmp n y ≡ Less) (keys_of (with_request p.number w (opened ps)))
    by None rest = rest
    by (Some x) rest = (less n p.number above.0, rest)

sorted : (ps : List Place) → Rises ps → IsStrictlySortedBy nat_cmp (keys_of (opened ps))
unfolding IsStrictlySortedBy
sorted [] r = tt
sorted (p ∷ ps) r = by p.request (above-keys p.number ps r.0) (sorted ps r.1)
  where
    by : (w : Option Pending)
        → AllByRecursion (λ y. nat_cmp p.number y ≡ Less) (keys_of (opened ps))
        → IsStrictlySortedBy nat_cmp (keys_of (opened ps))
        → IsStrictlySortedBy nat_cmp (keys_of (with_request p.number w (opened ps)))
    by None above rest = rest
    by (Some x) above rest = (above, rest)

pub ordered : (ps : List Place) (es : List (ℕ × Pending)) → opened ps ≡ es → Rises ps
    → IsStrictlySortedBy nat_cmp (keys_of es)
ordered ps es is r = subst (λ l. IsStrictlySortedBy nat_cmp (keys_of l)) is (sorted ps r)

found-first : (p : Place) (ps : List Place) → IsSome p.request
    → at (opened (p ∷ ps)) p.number ≡ p.request
found-first p ps some = by p.request some
  where
    by : (w : Option Pending) → IsSome w → at (with_request p.number w (opened ps)) p.number ≡ w
    by None s = absurd (cc s)
    by (Some x) s =
        ap (λ t. cond t (Some x) (at (opened ps) p.number)) (key_same p.number p.number refl)

some-places : (n : ℕ) → eqb (suc n) 0 ≡ false
some-places n = grind (arith, nat_tests)

-- whether a place is there tells whether a request is open
pub tells-idle : (ps : List Place) (n : ℕ) (t : Bool) → StartsOpen ps → n ≡ length ps
    → t ≡ eqb n 0 → TellsIdle (at (opened ps)) t
tells-idle [] n true s is e = λ n. refl
tells-idle [] n false s is e = let none = e ∙ ap (λ k. eqb k 0) is in absurd (cc none)
tells-idle (p ∷ ps) n true s is e =
    let none = e ∙ ap (λ k. eqb k 0) is ∙ some-places (length ps) in absurd (cc none)
tells-idle (p ∷ ps) n false s is e = record {
  number = p.number;
  there = ap is_some (found-first p ps s) ∙ s;
}

-- the first place has the least number
pub first-least : (ps : List Place) (p : Place) → IsInOrder ps → 0 < length ps
    → p ≡ slice_index_or ps 0 p → IsLeast (at (opened ps)) p.number
first-least [] p o less is = absurd (omega (arith, less))
first-least (q ∷ ps) p o less is =
    subst (λ x. IsLeast (at (opened (q ∷ ps))) x.number) (sym is)
    (by q.request o.starts (found-first q ps o.starts))
  where
    lower : (a b : ℕ) → (a ≤ b) ⊎ (b < a)
    lower a b = grind (arith, nat_tests)

    least : (m : ℕ) (x : Pending) → at (opened (q ∷ ps)) m ≡ Some x
        → (q.number ≤ m) ⊎ (m < q.number) → q.number ≤ m
    least m x there (inl le) = le
    least m x there (inr low) =
        absurd (cc (
          there,
          absent m (q ∷ ps) (
            (λ e. absurd (omega (arith, low, e))),
            nowhere-above q.number m ps (omega (arith, low)) o.rises.0,
          ),
        ))

    by : (w : Option Pending) → IsSome w → at (opened (q ∷ ps)) q.number ≡ w
        → IsLeast (at (opened (q ∷ ps))) q.number
    by None s there = absurd (cc s)
    by (Some x) s there = record {
      found = x;
      there = there;
      least = λ m y h. least m y h (lower q.number m);
    }
