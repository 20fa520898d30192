-- The lines of requester 0 in an order that begins with its places.
use Rattle.std.proofs.Common.{◌≡◌, ◌⊎◌, ℕ, zero, suc, ◌≤◌, inl, inr, Bool, true, false, Option}
use Rattle.std.proofs.Common.{Some, None, List, [], ◌∷◌, ◌++◌, refl, sym, ap, ◌∙◌, arith, subst}
use Rattle.std.proofs.lemmas.Bool.Decides.{nat_tests}
use Rattle.std.specs.List.{AllByRecursion}
use Rattle.std.specs.Prelude.{if◌then◌else◌}
use Rattle.gb_base.specs.declared.parts.Asked.{Asked}
use Rattle.gb_formats.specs.Orders.{AreLeading, AreOpening, AreThreaded, Merged, Place, first_of}
use Rattle.gb_formats.specs.Orders.{is_by, merge, placed, without_first}
use Rattle.gb_share.specs.Fulls.{own_lines}

-- no line is requester 0's
abbrev AreOthers : List Merged → Type 0
AreOthers ms = AllByRecursion (λ m. is_by 0 m.0 ≡ false) ms

-- the lines of requester 0 come first
abbrev pub ZerosFirst : List Merged → Type 0
ZerosFirst [] = Unit
ZerosFirst (m ∷ ms) = ((is_by 0 m.0 ≡ true) × ZerosFirst ms) ⊎ AreOthers (m ∷ ms)

-- ---- orders

first_by : (who : ℕ) (asked : List Asked) (a : Asked) → first_of who asked ≡ Some a
    → is_by who a ≡ true
first_by who [] a is = absurd cc
first_by who (x ∷ xs) a is = go (is_by who x) refl (first_by who xs a) is
  where
    go : (b : Bool) → is_by who x ≡ b → (first_of who xs ≡ Some a → is_by who a ≡ true)
        → (if b then Some x else first_of who xs) ≡ Some a → is_by who a ≡ true
    go true mine later is = let same : x ≡ a = cc in ap (λ y. is_by who y) (sym same) ∙ mine
    go false mine later is = later is

others_merged : (asked : List Asked) (o : List Place) → AllByRecursion (λ p. 1 ≤ p.0) o
    → AreOthers (merge asked o)
others_merged asked [] high = tt
others_merged asked ((zero, f) ∷ o) high = absurd (let low = high.0 in omega arith)
others_merged asked ((suc n, f) ∷ o) high =
    go (first_of (suc n) asked) refl (others_merged (without_first (suc n) asked) o high.1)
  where
    go : (x : Option Asked) → first_of (suc n) asked ≡ x
        → AreOthers (merge (without_first (suc n) asked) o)
        → AreOthers (placed x f (merge (without_first (suc n) asked) o))
    go None is later = later
    go (Some a) is later =
        let by = first_by (suc n) asked a is in ((grind (arith, nat_tests)), later)

pub zeros_merged : (asked : List Asked) (o rest : List Place) → AreOpening o
    → AllByRecursion (λ p. 1 ≤ p.0) rest → ZerosFirst (merge asked (o ++ rest))
zeros_merged asked [] rest opens high =
    all_others (merge asked rest) (others_merged asked rest high)
  where
    all_others : (ms : List Merged) → AreOthers ms → ZerosFirst ms
    all_others [] others = tt
    all_others (m ∷ ms) others = inr others
zeros_merged asked ((zero, f) ∷ o) rest opens high =
    go (first_of 0 asked) refl (zeros_merged (without_first 0 asked) o rest opens.1 high)
  where
    go : (x : Option Asked) → first_of 0 asked ≡ x
        → ZerosFirst (merge (without_first 0 asked) (o ++ rest))
        → ZerosFirst (placed x f (merge (without_first 0 asked) (o ++ rest)))
    go None is later = later
    go (Some a) is later = inl (first_by 0 asked a is, later)
zeros_merged asked ((suc n, f) ∷ o) rest opens high = absurd (let none = opens.0 in cc)

-- ---- the places behind

pub leading_high : (least : ℕ) (o : List Place) → 1 ≤ least → AreLeading least o
    → AllByRecursion (λ p. 1 ≤ p.0) o
leading_high least [] some leads = tt
leading_high least (p ∷ ps) some leads =
    let low = leads.1 in (omega arith, leading_high p.0 ps (omega arith) leads.2)

pub threaded_high : (last : ℕ) (o : List Place) → AreThreaded last o
    → AllByRecursion (λ p. 1 ≤ p.0) o
threaded_high last [] follow = tt
threaded_high last (p ∷ ps) follow = (follow.0, threaded_high p.0 ps follow.2)

pub high_both : (o p : List Place) → AllByRecursion (λ x. 1 ≤ x.0) o
    → AllByRecursion (λ x. 1 ≤ x.0) p → AllByRecursion (λ x. 1 ≤ x.0) (o ++ p)
high_both [] p one two = two
high_both (x ∷ xs) p one two = (one.0, high_both xs p one.1 two)

-- ---- a line of requester 0

not_other : (front back : List Merged) (m : Merged) → AreOthers (front ++ m ∷ back)
    → is_by 0 m.0 ≡ false
not_other [] back m all = all.0
not_other (x ∷ xs) back m all = not_other xs back m all.1

-- What stands in front of a line of requester 0 is its own.
pub own_front : (ms front back : List Merged) (m : Merged) → ZerosFirst ms
    → ms ≡ front ++ m ∷ back → is_by 0 m.0 ≡ true
    → (later : List Merged) × (own_lines 0 ms ≡ front ++ m ∷ later)
own_front [] [] back m zeros is mine = absurd cc
own_front [] (y ∷ ys) back m zeros is mine = absurd cc
own_front (x ∷ xs) [] back m zeros is mine =
    let head : x ≡ m = cc in
    let own : is_by 0 x.0 ≡ true = ap (λ (y : Merged). is_by 0 y.0) head ∙ mine in (
      own_lines 0 xs,
      ap (λ b. if b then x ∷ own_lines 0 xs else own_lines 0 xs) own
          ∙ ap (λ y. y ∷ own_lines 0 xs) head,
    )
own_front (x ∷ xs) (y ∷ ys) back m zeros is mine =
    let head : x ≡ y = cc in
    let tail : xs ≡ ys ++ m ∷ back = cc in
    go zeros head tail (λ rest. own_front xs ys back m rest tail mine)
  where
    go : ((is_by 0 x.0 ≡ true) × ZerosFirst xs) ⊎ AreOthers (x ∷ xs) → x ≡ y
        → xs ≡ ys ++ m ∷ back
        → (ZerosFirst xs → (later : List Merged) × (own_lines 0 xs ≡ ys ++ m ∷ later))
        → (later : List Merged) × (own_lines 0 (x ∷ xs) ≡ (y ∷ ys) ++ m ∷ later)
    go (inl zero_first) head tail rest =
        let later = rest zero_first.1 in (
          later.0,
          ap (λ b. if b then x ∷ own_lines 0 xs else own_lines 0 xs) zero_first.0
              ∙ (ap (λ z. z ∷ own_lines 0 xs) head ∙ ap (λ l. y ∷ l) later.1),
        )
    go (inr others) head tail rest =
        absurd (
        let none = not_other ys back m (subst (λ (l : List Merged). AreOthers l) tail others.1) in
        let both : true ≡ false = sym mine ∙ none in cc)
