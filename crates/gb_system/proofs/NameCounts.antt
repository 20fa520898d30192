-- How often the names name a request.
use Rattle.std.proofs.Common.{◌≡◌, ◌<◌, ℕ, suc, ◌+◌, Bool, true, false, cond, not, ◌||◌, eqb}
use Rattle.std.proofs.Common.{ltb, Some, None, is_some, List, [], ◌∷◌, ◌++◌, length, map, inl, inr}
use Rattle.std.proofs.Common.{refl, sym, ap, ◌∙◌, subst, arith}
use Rattle.std.proofs.lemmas.Bool.Decides.{nat_tests}
use Rattle.gb_base.specs.declared.name.Name.{Name}
use Rattle.gb_bus.specs.Listing.{count}
use Rattle.gb_bus.specs.Naming.{asked_for, without_one}
use Rattle.gb_bus.specs.Stands.{AreMade}
use Rattle.gb_machine.specs.Bus.{Bus, request_of}
use Rattle.gb_machine.specs.LawsBus.{is_awaited}
use Rattle.gb_machine.specs.Lists.{in_order, sorted, without}
use Rattle.gb_machine.specs.Members.{Each, IsIn}
use Rattle.gb_machine.specs.Names.{named, same_name}
use Rattle.gb_invariants.proofs.Lists.{each-from}
use Rattle.gb_system.proofs.BoundNames.{each-placed, elsewhere}
use Rattle.gb_system.specs.NameOrder.{AreApart, name_equiv}
use Rattle.gb_system.specs.Showing.{AreTold, pair_before}

-- the requests that names name
abbrev numbers : List (Name × ℕ) → List ℕ
numbers ps = map (λ p. p.1) ps

-- one for a number itself
abbrev once : ℕ → ℕ → ℕ
once n m = cond (eqb n m) 1 0

-- ---- a name is bound

-- behind the others it counts as in front of them
pub count-bound : (m n : ℕ) (name : Name) (ps : List (Name × ℕ))
    → count m (numbers (ps ++ (name, n) ∷ [])) ≡ count m (n ∷ numbers ps)
count-bound m n name [] = refl
count-bound m n name (p ∷ ps) =
    ap (λ c. cond (eqb p.1 m) (c + 1) c) (count-bound m n name ps)
    ∙ by (eqb p.1 m) (eqb n m) (count m (numbers ps))
  where
    by : (a b : Bool) (c : ℕ) → cond a (cond b (c + 1) c + 1) (cond b (c + 1) c)
        ≡ cond b (cond a (c + 1) c + 1) (cond a (c + 1) c)
    by true true c = refl
    by true false c = refl
    by false true c = refl
    by false false c = refl

pub made-bound : (n : ℕ) (name : Name) (ps : List (Name × ℕ)) (b : Bus)
    → is_some (request_of n b) ≡ true → AreMade (numbers ps) b
    → AreMade (numbers (ps ++ (name, n) ∷ [])) b
made-bound n name [] b one made = (one, tt)
made-bound n name (p ∷ ps) b one made = (made.0, made-bound n name ps b one made.1)

-- ---- a name is freed

-- without a name that isn't there, all stay
none-freed : (name : Name) (ps : List (Name × ℕ)) → named name ps ≡ None
    → without (λ p. same_name p.0 name) ps ≡ ps
none-freed name [] free = refl
none-freed name (p ∷ ps) free =
    let e = elsewhere name p ps free in
    ap (λ t. cond (not t) (p ∷ without (λ q. same_name q.0 name) ps)
    (without (λ q. same_name q.0 name) ps)) e.first
    ∙ ap (λ qs. p ∷ qs) (none-freed name ps e.rest)

-- names that are one name the same
named-alike : (a b : Name) (ps : List (Name × ℕ)) → same_name a b ≡ true
    → named a ps ≡ named b ps
named-alike a b [] same = refl
named-alike a b (p ∷ ps) same =
    ap (λ t. cond t (Some p.1) (named a ps))
    (name_equiv.symm p.0 a ∙ name_equiv.congr a b p.0 same ∙ name_equiv.symm b p.0)
    ∙ ap (cond (same_name p.0 b) (Some p.1)) (named-alike a b ps same)

-- the request of the name has one name less
count-left : (m n : ℕ) (name : Name) (ps : List (Name × ℕ)) → AreApart ps
    → named name ps ≡ Some n
    → count m (numbers (without (λ p. same_name p.0 name) ps)) + once n m
    ≡ count m (numbers ps)
count-left m n name [] apart is = absurd cc
count-left m n name (p ∷ ps) apart is =
    by (same_name p.0 name) refl is (count-left m n name ps apart.1)
  where
    left : List (Name × ℕ)
    left = without (λ q. same_name q.0 name) ps

    more : (a : Bool) (c d e : ℕ) → c + e ≡ d → cond a (c + 1) c + e ≡ cond a (d + 1) d
    more true c d e same = omega (arith, same)
    more false c d e same = same

    one : (a : Bool) (c : ℕ) → c + cond a 1 0 ≡ cond a (c + 1) c
    one true c = refl
    one false c = omega arith

    by : (t : Bool) → same_name p.0 name ≡ t → cond t (Some p.1) (named name ps) ≡ Some n
        → (named name ps ≡ Some n → count m (numbers left) + once n m ≡ count m (numbers ps))
        → count m (numbers (cond (not t) (p ∷ left) left)) + once n m
        ≡ count m (p.1 ∷ numbers ps)
    by true same e rec =
        let n_is : p.1 ≡ n = cc in
        ap (λ qs. count m (numbers qs) + once n m)
        (none-freed name ps (sym (named-alike p.0 name ps same) ∙ apart.0))
        ∙ one (eqb n m) (count m (numbers ps))
        ∙ ap (λ k. cond (eqb k m) (count m (numbers ps) + 1) (count m (numbers ps))) (sym n_is)
    by false same e rec =
        more (eqb p.1 m) (count m (numbers left)) (count m (numbers ps)) (once n m) (rec e)

-- the same without one of the numbers
count-without : (m n : ℕ) (ns : List ℕ) → 0 < count n ns
    → count m (without_one n ns) + once n m ≡ count m ns
count-without m n [] some = absurd (omega (arith, some))
count-without m n (k ∷ ns) some = by (eqb k n) refl some (count-without m n ns)
  where
    one : (a : Bool) (c : ℕ) → c + cond a 1 0 ≡ cond a (c + 1) c
    one true c = refl
    one false c = omega arith

    more : (a : Bool) (c d e : ℕ) → c + e ≡ d → cond a (c + 1) c + e ≡ cond a (d + 1) d
    more true c d e same = omega (arith, same)
    more false c d e same = same

    is-same : eqb k n ≡ true → k ≡ n
    is-same e = grind (arith, nat_tests)

    by : (t : Bool) → eqb k n ≡ t → 0 < cond t (count n ns + 1) (count n ns)
        → (0 < count n ns → count m (without_one n ns) + once n m ≡ count m ns)
        → count m (cond t ns (k ∷ without_one n ns)) + once n m ≡ count m (k ∷ ns)
    by true same some rec =
        one (eqb n m) (count m ns)
        ∙ ap (λ j. cond (eqb j m) (count m ns + 1) (count m ns)) (sym (is-same same))
    by false same some rec =
        more (eqb k m) (count m (without_one n ns)) (count m ns) (once n m) (rec some)

-- a request that a name names is counted
named-counted : (n : ℕ) (name : Name) (ps : List (Name × ℕ)) → named name ps ≡ Some n
    → 0 < count n (numbers ps)
named-counted n name [] is = absurd cc
named-counted n name (p ∷ ps) is =
    by (same_name p.0 name) is (named-counted n name ps)
  where
    here : eqb n n ≡ true
    here = grind (arith, nat_tests)

    first : (a : Bool) (c : ℕ) → a ≡ true → 0 < cond a (c + 1) c
    first true c e = omega arith
    first false c e = absurd cc

    later : (a : Bool) (c : ℕ) → 0 < c → 0 < cond a (c + 1) c
    later true c some = omega arith
    later false c some = some

    by : (t : Bool) → cond t (Some p.1) (named name ps) ≡ Some n
        → (named name ps ≡ Some n → 0 < count n (numbers ps)) → 0 < count n (p.1 ∷ numbers ps)
    by true e rec =
        let same : n ≡ p.1 = cc in
        subst (λ k. 0 < count n (k ∷ numbers ps)) same (first (eqb n n) (count n (numbers ps)) here)
    by false e rec = later (eqb p.1 n) (count n (numbers ps)) (rec e)

pub count-freed : (m n : ℕ) (name : Name) (ps : List (Name × ℕ)) → AreApart ps
    → named name ps ≡ Some n
    → count m (numbers (without (λ p. same_name p.0 name) ps))
    ≡ count m (without_one n (numbers ps))
count-freed m n name ps apart is =
    let a = count-left m n name ps apart is in
    let b = count-without m n (numbers ps) (named-counted n name ps is) in
    omega (arith, a, b)

pub made-freed : (test : Name × ℕ → Bool) (ps : List (Name × ℕ)) (b : Bus)
    → AreMade (numbers ps) b → AreMade (numbers (without test ps)) b
made-freed test [] b made = tt
made-freed test (p ∷ ps) b made = by (test p) (made-freed test ps b made.1)
  where
    by : (t : Bool) → AreMade (numbers (without test ps)) b
        → AreMade (numbers (cond (not t) (p ∷ without test ps) (without test ps))) b
    by true rec = rec
    by false rec = (made.0, rec)

-- ---- requests that are named are asked for

-- a request that was made and has a name is asked for
asked-so : (ns : List ℕ) (n : ℕ) (b : Bus) → 0 < count n ns → is_some (request_of n b) ≡ true
    → is_some (asked_for ns n b) ≡ true
asked-so ns n b some made =
    by (is_awaited n b) (ltb 0 (count n ns)) (grind (arith, nat_tests, some))
  where
    by : (a c : Bool) → c ≡ true → is_some (cond (a || c) (request_of n b) None) ≡ true
    by true c e = made
    by false true e = made
    by false false e = absurd cc

pub named-asked : (name : Name) (ps : List (Name × ℕ)) (n : ℕ) (b : Bus) → named name ps ≡ Some n
    → is_some (request_of n b) ≡ true → is_some (asked_for (numbers ps) n b) ≡ true
named-asked name ps n b is made = asked-so (numbers ps) n b (named-counted n name ps is) made

-- so is each that the names name
in-counted : (p : Name × ℕ) (ps : List (Name × ℕ)) → IsIn p ps → 0 < count p.1 (numbers ps)
in-counted p [] i = absurd i
in-counted p (q ∷ qs) (inl e) =
    subst (λ (r : Name × ℕ). 0 < count p.1 (r.1 ∷ numbers qs)) e
    (first (eqb p.1 p.1) (count p.1 (numbers qs)) here)
  where
    here : eqb p.1 p.1 ≡ true
    here = grind (arith, nat_tests)

    first : (a : Bool) (c : ℕ) → a ≡ true → 0 < cond a (c + 1) c
    first true c e = omega arith
    first false c e = absurd cc
in-counted p (q ∷ qs) (inr i) = later (eqb q.1 p.1) (count p.1 (numbers qs)) (in-counted p qs i)
  where
    later : (a : Bool) (c : ℕ) → 0 < c → 0 < cond a (c + 1) c
    later true c some = omega arith
    later false c some = some

in-made : (p : Name × ℕ) (ps : List (Name × ℕ)) (b : Bus) → AreMade (numbers ps) b → IsIn p ps
    → is_some (request_of p.1 b) ≡ true
in-made p [] b made i = absurd i
in-made p (q ∷ qs) b made (inl e) =
    subst (λ (r : Name × ℕ). is_some (request_of r.1 b) ≡ true) (sym e) made.0
in-made p (q ∷ qs) b made (inr i) = in-made p qs b made.1 i

each-sorted : (P : Name × ℕ → Type 0) (ps : List (Name × ℕ)) → Each P ps
    → Each P (sorted pair_before ps)
each-sorted P [] all = tt
each-sorted P (p ∷ ps) all =
    each-placed P p (sorted pair_before ps) all.0 (each-sorted P ps all.1)

-- in any order
pub sorted-told : (ps : List (Name × ℕ)) (b : Bus) → AreMade (numbers ps) b
    → AreTold (numbers ps) (sorted pair_before ps) b
sorted-told ps b made =
    each-sorted (λ p. is_some (asked_for (numbers ps) p.1 b) ≡ true) ps
    (each-from (λ p. is_some (asked_for (numbers ps) p.1 b) ≡ true) ps
    (λ p i. asked-so (numbers ps) p.1 b (in-counted p ps i) (in-made p ps b made i)))

-- as many names as there are
pub length-sorted : (ps : List (Name × ℕ)) → length (sorted pair_before ps) ≡ length (numbers ps)
length-sorted [] = refl
length-sorted (p ∷ ps) = placed p (sorted pair_before ps) ∙ ap suc (length-sorted ps)
  where
    placed : (q : Name × ℕ) (qs : List (Name × ℕ))
        → length (in_order pair_before q qs) ≡ suc (length qs)
    placed q [] = refl
    placed q (r ∷ rs) = by (pair_before q r) (placed q rs)
      where
        by : (t : Bool) → length (in_order pair_before q rs) ≡ suc (length rs)
            → length (cond t (q ∷ r ∷ rs) (r ∷ in_order pair_before q rs)) ≡ suc (suc (length rs))
        by true rec = refl
        by false rec = ap suc rec
