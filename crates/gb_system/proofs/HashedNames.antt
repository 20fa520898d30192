-- Names in a hash map: put in their order they are the list that contracts see.
use Rattle.std.proofs.Common.{◌≡◌, ℕ, Bool, true, false, cond, not, Option, Some, None, List, []}
use Rattle.std.proofs.Common.{◌∷◌, ◌++◌, length, append_assoc, append-nil, refl, sym, ap, ◌∙◌}
use Rattle.std.proofs.Common.{subst}
use Rattle.std.proofs.lemmas.List.{length-map}
use Rattle.std.proofs.lemmas.Map.Entries.{lookup-filter-keys}
use Rattle.std.proofs.lemmas.Map.Keys.{IsDistinct-head, IsDistinct-tail}
use Rattle.std.specs.BTreeMap.{insert_entry}
use Rattle.std.specs.List.{AllByRecursion, IsDistinct}
use Rattle.std.specs.Map.{keys_of, lookup}
use Rattle.std.specs.Ordering.{is_eq}
use Rattle.gb_base.specs.declared.name.Name.{Name}
use Rattle.gb_machine.specs.Lists.{in_order, sorted, without}
use Rattle.gb_machine.specs.Members.{Each}
use Rattle.gb_machine.specs.Names.{name_before, named, same_name}
use Rattle.gb_system.proofs.BoundNames.{IsBefore, Rise, apart-bound, apart-freed, before-one}
use Rattle.gb_system.proofs.BoundNames.{each-behind, elsewhere, free-bound, is-less, named-placed}
use Rattle.gb_system.proofs.BoundNames.{named-sorted, rise-placed, rise-sorted, sorted-bound}
use Rattle.gb_system.proofs.BoundNames.{sorted-freed}
use Rattle.gb_system.proofs.NameCounts.{length-sorted}
use Rattle.gb_system.proofs.NameOrders.{name-less, placed-name}
use Rattle.gb_system.specs.NameOrder.{AreApart, name_cmp, name_equiv, name_ties, one_name}
use Rattle.gb_system.specs.Showing.{pair_before}

-- ---- names that rise and name the same are one list

-- a name before another isn't it
before-other : (a b : Name) → name_before a b ≡ true → same_name a b ≡ false
before-other a b e =
    name_ties a b ∙ ap is_eq (is-less (name_cmp a b) (sym (name-less a b) ∙ e))

-- the first name names its request
own : (p : Name × ℕ) (ps : List (Name × ℕ)) → named p.0 (p ∷ ps) ≡ Some p.1
own p ps = ap (λ t. cond t (Some p.1) (named p.0 ps)) (name_equiv.refl p.0)

-- a name before all of these isn't there
nowhere : (p : Name × ℕ) (ps : List (Name × ℕ)) → Each (IsBefore p) ps → named p.0 ps ≡ None
nowhere p [] all = refl
nowhere p (q ∷ qs) all =
    ap (λ t. cond t (Some q.1) (named p.0 qs))
    (name_equiv.symm q.0 p.0 ∙ before-other p.0 q.0 all.0)
    ∙ nowhere p qs all.1

-- a name before all that the other list has can't be the first of this one
not-before : (p q : Name × ℕ) (ps qs : List (Name × ℕ)) → IsBefore p q → Each (IsBefore q) qs
    → named p.0 (p ∷ ps) ≡ named p.0 (q ∷ qs) → ⊥
not-before p q ps qs is all same =
    absurd (cc (sym (own p ps) ∙ same
    ∙ nowhere p (q ∷ qs) (is, each-behind p q qs is all)))

-- so the first ones are the same
firsts : (p q : Name × ℕ) (ps qs : List (Name × ℕ)) → Rise (p ∷ ps) → Rise (q ∷ qs)
    → ((name : Name) → named name (p ∷ ps) ≡ named name (q ∷ qs)) → p ≡ q
firsts p q ps qs a b same = by (same_name p.0 q.0) (name_before p.0 q.0) refl refl
  where
    by : (t u : Bool) → same_name p.0 q.0 ≡ t → name_before p.0 q.0 ≡ u → p ≡ q
    by true u is it =
        let number : p.1 ≡ q.1 =
        cc (sym (own p ps) ∙ same p.0 ∙ ap (λ t. cond t (Some q.1) (named p.0 qs))
        (name_equiv.symm q.0 p.0 ∙ is)) in
        ap (λ name. (name, p.1)) (one_name p.0 q.0 is) ∙ ap (λ n. (q.0, n)) number
    by false true is it = absurd (not-before p q ps qs it b.0 (same p.0))
    by false false is it =
        absurd (not-before q p qs ps (before-one p.0 q.0 is ∙ ap not it) a.0 (sym (same q.0)))

-- and those behind them name the same
rests : (p : Name × ℕ) (ps qs : List (Name × ℕ)) → Each (IsBefore p) ps → Each (IsBefore p) qs
    → (name : Name) → named name (p ∷ ps) ≡ named name (p ∷ qs) → named name ps ≡ named name qs
rests p ps qs a b name same = by (same_name p.0 name) refl same
  where
    gone : (rs : List (Name × ℕ)) → Each (IsBefore p) rs → same_name p.0 name ≡ true
        → named name rs ≡ None
    gone rs all is = ap (λ n. named n rs) (sym (one_name p.0 name is)) ∙ nowhere p rs all

    by : (t : Bool) → same_name p.0 name ≡ t
        → cond t (Some p.1) (named name ps) ≡ cond t (Some p.1) (named name qs)
        → named name ps ≡ named name qs
    by true is e = gone ps a is ∙ sym (gone qs b is)
    by false is e = e

one-list : (ps qs : List (Name × ℕ)) → Rise ps → Rise qs
    → ((name : Name) → named name ps ≡ named name qs) → ps ≡ qs
one-list [] [] a b same = refl
one-list [] (q ∷ qs) a b same = absurd (cc (same q.0 ∙ own q qs))
one-list (p ∷ ps) [] a b same = absurd (cc (sym (same p.0) ∙ own p ps))
one-list (p ∷ ps) (q ∷ qs) a b same =
    let is : p ≡ q = firsts p q ps qs a b same in
    ap (λ (r : Name × ℕ). r ∷ ps) is
    ∙ ap (λ (rs : List (Name × ℕ)). q ∷ rs)
    (one-list ps qs a.1 b.1
    (λ name. rests q ps qs (subst (λ (r : Name × ℕ). Each (IsBefore r) ps) is a.0) b.0 name
    (ap (λ (r : Name × ℕ). named name (r ∷ ps)) (sym is) ∙ same name)))

-- ---- what a hash map has

-- names of which no two are one differ
apart-distinct : (ps : List (Name × ℕ)) → IsDistinct same_name (keys_of ps) → AreApart ps
apart-distinct [] d = tt
apart-distinct (p ∷ ps) d = (
  none ps (IsDistinct-head same_name p.0 (keys_of ps) d),
  apart-distinct ps (IsDistinct-tail same_name p.0 (keys_of ps) d),
)
  where
    none : (qs : List (Name × ℕ)) → AllByRecursion (λ q. same_name p.0 q ≡ false) (keys_of qs)
        → named p.0 qs ≡ None
    none [] all = refl
    none (q ∷ qs) all =
        ap (λ t. cond t (Some q.1) (named p.0 qs)) (name_equiv.symm q.0 p.0 ∙ all.0)
        ∙ none qs all.1

-- what a search finds is what the name names
found : (name : Name) (ps : List (Name × ℕ)) → lookup (same_name name) ps ≡ named name ps
found name [] = refl
found name (p ∷ ps) =
    ap (λ t. cond t (Some p.1) (lookup (same_name name) ps)) (name_equiv.symm name p.0)
    ∙ ap (cond (same_name p.0 name) (Some p.1)) (found name ps)

-- in order, too
pub found-sorted : (name : Name) (ps : List (Name × ℕ)) → IsDistinct same_name (keys_of ps)
    → lookup (same_name name) ps ≡ named name (sorted pair_before ps)
found-sorted name ps d = found name ps ∙ sym (named-sorted name ps (apart-distinct ps d))

-- as many names as there are
pub length-hashed : (ps : List (Name × ℕ)) → length (sorted pair_before ps) ≡ length ps
length-hashed ps = length-sorted ps ∙ length-map ps (λ p. p.1)

-- after a change at one name
abbrev Updated : Name → Option ℕ → List (Name × ℕ) → List (Name × ℕ) → Type 0
Updated name o ps qs =
    (q : Name) → lookup (same_name q) qs ≡ cond (same_name name q) o (lookup (same_name q) ps)

-- a free name that is bound goes to its place
pub bound-hashed : (name : Name) (n : ℕ) (ps qs : List (Name × ℕ))
    → IsDistinct same_name (keys_of ps) → IsDistinct same_name (keys_of qs)
    → Updated name (Some n) ps qs → named name (sorted pair_before ps) ≡ None
    → sorted pair_before qs ≡ in_order pair_before (name, n) (sorted pair_before ps)
bound-hashed name n ps qs d e update free =
    one-list (sorted pair_before qs) (in_order pair_before (name, n) (sorted pair_before ps))
    (rise-sorted qs (apart-distinct qs e))
    (rise-placed (name, n) (sorted pair_before ps) free (rise-sorted ps (apart-distinct ps d)))
    (λ q. sym (found-sorted q qs e) ∙ update q
    ∙ ap (cond (same_name name q) (Some n)) (found-sorted q ps d)
    ∙ sym (named-placed q (name, n) (sorted pair_before ps) free))

-- the order of names is that of any other list in which the same is found
pub same-sorted : (ps qs : List (Name × ℕ)) → IsDistinct same_name (keys_of ps)
    → IsDistinct same_name (keys_of qs)
    → ((q : Name) → lookup (same_name q) qs ≡ lookup (same_name q) ps)
    → sorted pair_before qs ≡ sorted pair_before ps
same-sorted ps qs d e same =
    one-list (sorted pair_before qs) (sorted pair_before ps)
    (rise-sorted qs (apart-distinct qs e)) (rise-sorted ps (apart-distinct ps d))
    (λ q. sym (found-sorted q qs e) ∙ same q ∙ found-sorted q ps d)

-- what is found where a name is taken out
found-without : (name q : Name) (ps : List (Name × ℕ))
    → lookup (same_name q) (without (λ p. same_name p.0 name) ps)
    ≡ cond (same_name name q) None (lookup (same_name q) ps)
found-without name q ps =
    lookup-filter-keys (same_name q) (λ k. not (same_name k name)) (not (same_name name q))
    (λ k is. ap not (sym (name_equiv.congr q k name is) ∙ name_equiv.symm q name)) ps
    ∙ by (same_name name q) (lookup (same_name q) ps)
  where
    by : (t : Bool) (o : Option ℕ) → cond (not t) o None ≡ cond t None o
    by true o = refl
    by false o = refl

-- where a name is freed, the others stay in their order
pub freed-hashed : (name : Name) (ps qs : List (Name × ℕ))
    → IsDistinct same_name (keys_of ps) → IsDistinct same_name (keys_of qs)
    → Updated name None ps qs
    → sorted pair_before qs ≡ without (λ p. same_name p.0 name) (sorted pair_before ps)
freed-hashed name ps qs d e update =
    one-list (sorted pair_before qs) (sorted pair_before left)
    (rise-sorted qs (apart-distinct qs e)) (rise-sorted left apart)
    (λ q. sym (found-sorted q qs e) ∙ update q ∙ sym (found-without name q ps) ∙ found q left
    ∙ sym (named-sorted q left apart))
    ∙ sorted-freed (λ p. same_name p.0 name) ps (apart-distinct ps d)
  where
    left : List (Name × ℕ)
    left = without (λ p. same_name p.0 name) ps

    apart : AreApart left
    apart = apart-freed (λ p. same_name p.0 name) ps (apart-distinct ps d)

-- ---- what an ordered map has that the names are put into

-- names that are inserted in turn
abbrev pub inserted : List (Name × ℕ) → List (Name × ℕ) → List (Name × ℕ)
inserted names [] = names
inserted names (p ∷ ps) = inserted (insert_entry name_cmp names p.0 p.1) ps

-- none of these is among those
abbrev AreFree : List (Name × ℕ) → List (Name × ℕ) → Type 0
AreFree front ps = Each (λ p. named p.0 front ≡ None) ps

-- nor among those with one more, which is none of these
free-more : (p : Name × ℕ) (front ps : List (Name × ℕ)) → named p.0 ps ≡ None → AreFree front ps
    → AreFree (front ++ p ∷ []) ps
free-more p front [] none free = tt
free-more p front (q ∷ qs) none free =
    let e = elsewhere p.0 q qs none in (
      free-bound p.0 p.1 q.0 front (name_equiv.symm p.0 q.0 ∙ e.first) free.0,
      free-more p front qs e.rest free.1,
    )

-- names that are inserted behind others are in their order with them
inserted-behind : (front ps : List (Name × ℕ)) → AreApart front → AreApart ps → AreFree front ps
    → inserted (sorted pair_before front) ps ≡ sorted pair_before (front ++ ps)
inserted-behind front [] a b free = ap (sorted pair_before) (sym (append-nil front))
inserted-behind front (p ∷ ps) a b free =
    ap (λ names. inserted names ps)
    (placed-name p.0 p.1 (sorted pair_before front) (named-sorted p.0 front a ∙ free.0)
    ∙ sym (sorted-bound p.0 p.1 front free.0))
    ∙ inserted-behind (front ++ p ∷ []) ps (apart-bound p.0 p.1 front a free.0) b.1
    (free-more p front ps b.0 free.1)
    ∙ ap (sorted pair_before) (append_assoc front (p ∷ []) ps)

-- names that are inserted one by one are in their order
pub inserted-sorted : (ps : List (Name × ℕ)) → IsDistinct same_name (keys_of ps)
    → inserted [] ps ≡ sorted pair_before ps
inserted-sorted ps d = inserted-behind [] ps tt (apart-distinct ps d) (all ps)
  where
    all : (qs : List (Name × ℕ)) → AreFree [] qs
    all [] = tt
    all (q ∷ qs) = (refl, all qs)
