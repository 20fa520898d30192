-- Places whose numbers rise.
use Rattle.std.proofs.Common.{◌≡◌, ◌==◌, ◌<◌, ◌≤◌, ◌+◌, ℕ, zero, suc, Bool, true, false, cond}
use Rattle.std.proofs.Common.{nat_lt, ltb, ◌-◌, Some, None, List, [], ◌∷◌, ◌++◌, length, get_or}
use Rattle.std.proofs.Common.{refl, sym, ap, ◌∙◌, arith, subst, length-append}
use Rattle.std.proofs.Math.ListN.{get_or-append}
use Rattle.std.proofs.Math.Seq.{get_or-append_seam}
use Rattle.std.proofs.lemmas.Bool.Decides.{nat_tests}
use Rattle.std.proofs.lemmas.List.{get_or_default}
use Rattle.std.specs.List.{position_from}
use Rattle.std.specs.List.Sorted.{IsNonDecreasingBy, IsPartitionPoint}
use Rattle.gb_host.specs.Places.{AllRise}
use Rattle.gb_host.specs.declared.places.Place.{Place}

-- a connection has no greater number than one that stands at its place or later
pub climbs : (ls : List Place) → AllRise ls
    → IsNonDecreasingBy (λ (l : Place). l.link.connection) ls
climbs ls rises i j d most within = by (i == j) refl
  where
    by : (b : Bool) → (i == j) ≡ b → (get_or ls i d).link.connection
        ≤ (get_or ls j d).link.connection
    by true h =
        let same : i ≡ j = grind (arith, nat_tests) in
        subst (λ n. (get_or ls i d).link.connection
        ≤ (get_or ls n d).link.connection) same (omega arith)
    by false h =
        let less : i < j = grind (arith, nat_tests) in
        let more = rises i j d less within in omega (arith, more)

-- each number is smaller than that of one more at the end
rises-last : (ls : List Place) (l : Place) → ((i : ℕ) (d : Place) → i < length ls
    → (get_or ls i d).link.connection < l.link.connection)
    → AllRise ls → AllRise (ls ++ l ∷ [])
rises-last ls l below rises i j d less within = by (nat_lt j (length ls)) refl
  where
    by : (b : Bool) → nat_lt j (length ls) ≡ b → (get_or (ls ++ l ∷ []) i d).link.connection
        < (get_or
        (ls ++ l ∷ []) j d).link.connection
    by true h =
        let there : j < length ls = grind (arith, nat_tests) in
        let before : i < length ls = omega (arith, less, there) in
        subst (λ (m : Place). m.link.connection < (get_or (ls ++ l ∷ []) j d).link.connection) (sym
        (get_or-append ls (l ∷ []) d i before))
        (subst (λ (m : Place). (get_or ls i d).link.connection
        < m.link.connection) (sym (get_or-append ls (l
        ∷ []) d j there)) (rises i j d less there))
    by false h =
        let over : length ls ≤ j = grind (arith, nat_tests) in
        let count : length (ls ++ l ∷ []) ≡ length ls + 1 = length-append ls (l ∷ []) in
        let end : j ≡ length ls = omega (arith, over, count, within) in
        let before : i < length ls = omega (arith, less, end) in
        subst (λ (m : Place). m.link.connection < (get_or (ls ++ l ∷ []) j d).link.connection) (sym
        (get_or-append ls (l ∷ []) d i before))
        (subst (λ n. (get_or ls i d).link.connection
        < (get_or (ls ++ l ∷ []) n d).link.connection) (sym end)
        (subst (λ (m : Place). (get_or ls i d).link.connection
        < m.link.connection) (sym (get_or-append_seam
        ls l [] d)) (below i d before)))

-- the first with a number, where those before it have smaller ones
first-of : (k : ℕ) (ls : List Place) (n i : ℕ) (d : Place) → i < length ls → ((j : ℕ) → j < i
    → (get_or ls j d).link.connection < k)
    → (get_or ls i d).link.connection ≡ k → position_from (λ l. l.link.connection == k) n ls
    ≡ Some (n + i)
first-of k [] n i d within before is = absurd (omega (arith, within))
first-of k (l ∷ ls) n zero d within before is =
    let test : (l.link.connection == k) ≡ true = grind (arith, nat_tests) in
    ap (λ b. cond b (Some n) (position_from (λ (m : Place). m.link.connection == k) (n + 1) ls))
    test ∙ ap Some (omega arith)
first-of k (l ∷ ls) n (suc i) d within before is =
    let least : l.link.connection < k = before zero (omega arith) in
    let test : (l.link.connection == k) ≡ false = grind (arith, nat_tests) in
    ap (λ b. cond b (Some n) (position_from (λ (m : Place). m.link.connection == k) (n + 1) ls))
    test ∙ first-of k ls (n + 1) i d (omega (arith, within)) (λ j h. before (suc j) (omega (
      arith,
      h,
    ))) is ∙ ap Some (omega arith)

-- none, where all have other numbers
none-of : (k : ℕ) (ls : List Place) (n : ℕ) → ((j : ℕ) (d : Place) → j < length ls
    → ((get_or ls j d).link.connection == k) ≡ false)
    → position_from (λ l. l.link.connection == k) n ls ≡ None
none-of k [] n other = refl
none-of k (l ∷ ls) n other =
    ap (λ b. cond b (Some n) (position_from (λ (m : Place). m.link.connection == k) (n + 1) ls))
    (other
    zero l (omega arith))
    ∙ none-of k ls (n + 1) (λ j d h. other (suc j) d (omega (arith, h)))

-- the place in front of which numbers are smaller, and from which on they aren't
abbrev pub IsPoint : ℕ → List Place → ℕ → Type 0
IsPoint k ls i = IsPartitionPoint (λ (l : Place). ltb l.link.connection k
    ≡ true) (λ (l : Place). ltb l.link.connection k ≡ false) ls i

-- none has the number, where the place is behind all
pub behind-all : (k : ℕ) (ls : List Place) (i : ℕ) → IsPoint k ls i → i ≡ length ls
    → position_from (λ l. l.link.connection == k) 0 ls ≡ None
behind-all k ls i point end = none-of k ls 0 (λ j d h.
    let below : j < i = omega (arith, h, end) in
    let test : ltb (get_or ls j d).link.connection k ≡ true = point.0 j d (omega arith) below in
    grind (arith, nat_tests))

-- the one at the place has the number
pub at-point : (k : ℕ) (ls : List Place) (i : ℕ) (d : Place) → IsPoint k ls i → i < length ls
    → (get_or ls i d).link.connection ≡ k
    → position_from (λ l. l.link.connection == k) 0 ls ≡ Some i
at-point k ls i d point within is = first-of k ls 0 i d within
    (λ j h. let test : ltb (get_or ls j d).link.connection k ≡ true = point.0 j d (omega arith) h in
    grind (arith, nat_tests)) is ∙ ap Some (omega arith)

-- the one at a place has the number, where numbers rise
pub rises-at : (k : ℕ) (ls : List Place) (i : ℕ) (d : Place) → i < length ls
    → (get_or ls i d).link.connection ≡ k → AllRise ls
    → position_from (λ l. l.link.connection == k) 0 ls ≡ Some i
rises-at k ls i d within is rises =
    first-of k ls 0 i d within
    (λ j h. let before = rises j i d h within in omega (arith, before, is)) is
    ∙ ap Some (omega arith)

-- none has the number, where the one at the place hasn't
pub past-point : (k : ℕ) (ls : List Place) (i : ℕ) (e : Place) → AllRise ls → IsPoint k ls i
    → i < length ls
    → ((get_or ls i e).link.connection ≡ k → ⊥)
    → position_from (λ l. l.link.connection == k) 0 ls ≡ None
past-point k ls i e rises point within other = none-of k ls 0 (λ j d h. by j d h (nat_lt j i) refl)
  where
    by : (j : ℕ) (d : Place) → j < length ls → (b : Bool) → nat_lt j i ≡ b
        → ((get_or ls j d).link.connection == k) ≡ false
    by j d h true before =
        let below : j < i = grind (arith, nat_tests) in
        let test : ltb (get_or ls j d).link.connection k ≡ true = point.0 j d (omega arith) below in
        grind (arith, nat_tests)
    by j d h false behind =
        let over : i ≤ j = grind (arith, nat_tests) in
        let test : ltb (get_or ls i e).link.connection k
        ≡ false = point.1 i e (omega arith) within in
        let more : k < (get_or ls i e).link.connection = grind (arith, nat_tests) in
        let most : (get_or ls i e).link.connection
        ≤ (get_or ls j e).link.connection = climbs ls rises i j e
        over h in
        let same : get_or ls j d ≡ get_or ls j e = get_or_default ls j d e h in
        let all : k < (get_or ls j d).link.connection = subst (λ (m : Place). k
        < m.link.connection) (sym
        same) (omega (arith, more, most)) in
        grind (arith, nat_tests)

-- none has a number below the first
pub below-first : (k : ℕ) (ls : List Place) (d : Place) → k < (get_or ls 0 d).link.connection
    → AllRise ls → position_from (λ l. l.link.connection == k) 0 ls ≡ None
below-first k ls d less rises = none-of k ls 0 (λ j e h.
    let most : (get_or ls 0 d).link.connection
    ≤ (get_or ls j d).link.connection = climbs ls rises 0 j d
    (omega arith) h in
    let one : get_or ls j e ≡ get_or ls j d = get_or_default ls j e d h in
    let all : k < (get_or ls j e).link.connection = subst (λ (m : Place). k
    < m.link.connection) (sym one)
    (omega (arith, less, most)) in
    grind (arith, nat_tests))

-- the numbers rise to that of one more, where the last is smaller
pub rises-to : (ls : List Place) (l d : Place)
    → ltb (get_or ls (length ls - 1) d).link.connection l.link.connection ≡ true
    → AllRise ls → AllRise (ls ++ l ∷ [])
rises-to ls l d test rises = rises-last ls l (λ i e h.
    let most : (get_or ls (length ls - 1) d).link.connection
    < l.link.connection = grind (arith, nat_tests) in
    let before : i ≤ length ls - 1 = omega (arith, h) in
    let within : length ls - 1 < length ls = omega (arith, h) in
    let up : (get_or ls i d).link.connection
    ≤ (get_or ls (length ls - 1) d).link.connection = climbs ls
    rises i (length ls - 1) d before within in
    let one : get_or ls i e ≡ get_or ls i d = get_or_default ls i e d h in
    subst (λ (m : Place). m.link.connection
    < l.link.connection) (sym one) (omega (arith, up, most))) rises
