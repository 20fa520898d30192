-- The names that are bound, in their order.
use Rattle.std.proofs.Common.{◌≡◌, ℕ, Bool, true, false, cond, not, Some, None, List, [], ◌∷◌, ◌++◌}
use Rattle.std.proofs.Common.{Equal, Greater, Less, refl, sym, ap, ◌∙◌}
use Rattle.std.specs.Ordering.{is_eq, is_lt, ordering_reverse}
use Rattle.std.specs.declared.cmp.Ordering.{Ordering}
use Rattle.gb_base.specs.declared.name.Name.{Name}
use Rattle.gb_machine.specs.Lists.{in_order, sorted, without}
use Rattle.gb_machine.specs.Members.{Each, EachTwo}
use Rattle.gb_machine.specs.Names.{name_before, named, same_name}
use Rattle.gb_system.proofs.NameOrders.{name-less}
use Rattle.gb_system.specs.NameOrder.{AreApart, name_cmp, name_equiv, name_ties, name_total}
use Rattle.gb_system.specs.Showing.{pair_before}

-- ---- the order

pub is-less : (o : Ordering) → is_lt o ≡ true → o ≡ Less
is-less Less e = refl
is-less Equal e = absurd cc
is-less Greater e = absurd cc

-- a name before another is before those behind that
before-trans : (a b c : Name) → name_before a b ≡ true → name_before b c ≡ true
    → name_before a c ≡ true
before-trans a b c first second =
    name-less a c
    ∙ ap is_lt (name_total.trans a b c (is-less (name_cmp a b) (sym (name-less a b) ∙ first))
    (is-less (name_cmp b c) (sym (name-less b c) ∙ second)))

-- of two names one is before the other
pub before-one : (a b : Name) → same_name a b ≡ false → name_before b a ≡ not (name_before a b)
before-one a b other =
    name-less b a ∙ ap is_lt (name_total.antisymm b a)
    ∙ by (name_cmp a b) (sym (name_ties a b) ∙ other)
    ∙ ap not (sym (name-less a b))
  where
    by : (o : Ordering) → is_eq o ≡ false → is_lt (ordering_reverse o) ≡ not (is_lt o)
    by Less e = refl
    by Equal e = absurd cc
    by Greater e = refl

-- ---- one name goes to its place

-- the first isn't this name, and the rest has it not
pub record IsElsewhere (name : Name) (p : Name × ℕ) (ps : List (Name × ℕ)) : Type 0 where
  pub first : same_name p.0 name ≡ false
  pub rest : named name ps ≡ None

pub elsewhere : (name : Name) (p : Name × ℕ) (ps : List (Name × ℕ)) → named name (p ∷ ps) ≡ None
    → IsElsewhere name p ps
elsewhere name p ps free = by (same_name p.0 name) refl free
  where
    by : (t : Bool) → same_name p.0 name ≡ t → cond t (Some p.1) (named name ps) ≡ None
        → IsElsewhere name p ps
    by true is e = absurd cc
    by false is e = record { first = is; rest = e }

-- what a name names where it went
pub named-placed : (name : Name) (p : Name × ℕ) (ps : List (Name × ℕ)) → named p.0 ps ≡ None
    → named name (in_order pair_before p ps)
    ≡ cond (same_name p.0 name) (Some p.1) (named name ps)
named-placed name p [] free = refl
named-placed name p (q ∷ qs) free =
    by (pair_before p q) (same_name p.0 name) (same_name q.0 name) refl refl
    (named-placed name p qs (elsewhere p.0 q qs free).rest)
  where
    later : List (Name × ℕ)
    later = in_order pair_before p qs

    apart : same_name p.0 name ≡ true → same_name q.0 name ≡ true → ⊥
    apart a b =
        let one = name_equiv.congr p.0 name q.0 a in
        absurd (cc (
          name_equiv.symm p.0 q.0,
          (elsewhere p.0 q qs free).first,
          one,
          name_equiv.symm name q.0,
          b,
        ))

    by : (t a b : Bool) → same_name p.0 name ≡ a → same_name q.0 name ≡ b
        → named name later ≡ cond (same_name p.0 name) (Some p.1) (named name qs)
        → named name (cond t (p ∷ q ∷ qs) (q ∷ later))
        ≡ cond (same_name p.0 name) (Some p.1)
        (cond (same_name q.0 name) (Some q.1) (named name qs))
    by true a b is it rec = refl
    by false true true is it rec = absurd (apart is it)
    by false true false is it rec =
        ap (λ s. cond s (Some q.1) (named name later)) it ∙ rec
        ∙ ap (λ s. cond s (Some p.1) (named name qs)) is
        ∙ sym (ap (λ s. cond s (Some p.1)
        (cond (same_name q.0 name) (Some q.1) (named name qs))) is)
    by false false b is it rec =
        ap (cond (same_name q.0 name) (Some q.1))
        (rec ∙ ap (λ s. cond s (Some p.1) (named name qs)) is)
        ∙ sym (ap (λ s. cond s (Some p.1)
        (cond (same_name q.0 name) (Some q.1) (named name qs))) is)

-- what a name names in order is what it names
pub named-sorted : (name : Name) (ps : List (Name × ℕ)) → AreApart ps
    → named name (sorted pair_before ps) ≡ named name ps
named-sorted name [] apart = refl
named-sorted name (p ∷ ps) apart =
    named-placed name p (sorted pair_before ps) (named-sorted p.0 ps apart.1 ∙ apart.0)
    ∙ ap (cond (same_name p.0 name) (Some p.1)) (named-sorted name ps apart.1)

-- ---- a name is bound

-- two names go to their places before and behind a third
abbrev placed_both : (p q e : Name × ℕ) → Bool → Bool → Bool → List (Name × ℕ) → List (Name × ℕ)
placed_both p q e a b c es =
    cond a (cond c (q ∷ p ∷ e ∷ es) (p ∷ cond b (q ∷ e ∷ es) (e ∷ in_order pair_before q es)))
    (cond b (q ∷ e ∷ in_order pair_before p es)
    (e ∷ in_order pair_before q (in_order pair_before p es)))

placed-both : (p q e : Name × ℕ) (es : List (Name × ℕ))
    → in_order pair_before q (in_order pair_before p (e ∷ es))
    ≡ placed_both p q e (pair_before p e) (pair_before q e) (pair_before q p) es
placed-both p q e es = by (pair_before p e)
  where
    by : (a : Bool)
        → in_order pair_before q (cond a (p ∷ e ∷ es) (e ∷ in_order pair_before p es))
        ≡ placed_both p q e a (pair_before q e) (pair_before q p) es
    by true = refl
    by false = refl

-- in either order
either-order : (p q : Name × ℕ) (es : List (Name × ℕ)) → same_name p.0 q.0 ≡ false
    → in_order pair_before q (in_order pair_before p es)
    ≡ in_order pair_before p (in_order pair_before q es)
either-order p q [] other = by (pair_before p q) (pair_before q p) (before-one p.0 q.0 other)
  where
    by : (d c : Bool) → c ≡ not d
        → cond c (q ∷ p ∷ []) (p ∷ q ∷ []) ≡ cond d (p ∷ q ∷ []) (q ∷ p ∷ [])
    by true true e = absurd cc
    by true false e = refl
    by false true e = refl
    by false false e = absurd cc
either-order p q (e ∷ es) other =
    placed-both p q e es
    ∙ by (pair_before p e) (pair_before q e) (pair_before q p) (pair_before p q)
    (before-one p.0 q.0 other) (before-trans q.0 p.0 e.0) (before-trans p.0 q.0 e.0)
    (either-order p q es other)
    ∙ sym (placed-both q p e es)
  where
    by : (a b c d : Bool) → c ≡ not d → (c ≡ true → a ≡ true → b ≡ true)
        → (d ≡ true → b ≡ true → a ≡ true)
        → in_order pair_before q (in_order pair_before p es)
        ≡ in_order pair_before p (in_order pair_before q es)
        → placed_both p q e a b c es ≡ placed_both q p e b a d es
    by a b true true n f g rec = absurd cc
    by a b false false n f g rec = absurd cc
    by true true true false n f g rec = refl
    by true true false true n f g rec = refl
    by true false true false n f g rec = absurd (cc (f refl refl))
    by true false false true n f g rec = refl
    by false true true false n f g rec = refl
    by false true false true n f g rec = absurd (cc (g refl refl))
    by false false true false n f g rec = ap (λ ps. e ∷ ps) rec
    by false false false true n f g rec = ap (λ ps. e ∷ ps) rec

-- a name that is bound goes to its place
pub sorted-bound : (name : Name) (n : ℕ) (ps : List (Name × ℕ)) → named name ps ≡ None
    → sorted pair_before (ps ++ (name, n) ∷ [])
    ≡ in_order pair_before (name, n) (sorted pair_before ps)
sorted-bound name n [] free = refl
sorted-bound name n (p ∷ ps) free =
    let e = elsewhere name p ps free in
    ap (in_order pair_before p) (sorted-bound name n ps e.rest)
    ∙ either-order (name, n) p (sorted pair_before ps) (name_equiv.symm name p.0 ∙ e.first)

-- another name that is free is so still
pub free-bound : (name : Name) (n : ℕ) (other : Name) (ps : List (Name × ℕ))
    → same_name name other ≡ false → named other ps ≡ None
    → named other (ps ++ (name, n) ∷ []) ≡ None
free-bound name n other [] is none = ap (λ t. cond t (Some n) None) is
free-bound name n other (p ∷ ps) is none =
    let e = elsewhere other p ps none in
    ap (λ t. cond t (Some p.1) (named other (ps ++ (name, n) ∷ []))) e.first
    ∙ free-bound name n other ps is e.rest

-- and the names differ still
pub apart-bound : (name : Name) (n : ℕ) (ps : List (Name × ℕ)) → AreApart ps → named name ps ≡ None
    → AreApart (ps ++ (name, n) ∷ [])
apart-bound name n [] apart free = (refl, tt)
apart-bound name n (p ∷ ps) apart free =
    let e = elsewhere name p ps free in (
      free-bound name n p.0 ps (name_equiv.symm name p.0 ∙ e.first) apart.0,
      apart-bound name n ps apart.1 e.rest,
    )

-- ---- a name is freed

-- a name is before each of these
abbrev pub IsBefore : Name × ℕ → Name × ℕ → Type 0
IsBefore p q = pair_before p q ≡ true

-- each is before those behind it
abbrev pub Rise : List (Name × ℕ) → Type 0
Rise ps = EachTwo IsBefore ps

pub each-behind : (p q : Name × ℕ) (ps : List (Name × ℕ)) → IsBefore p q → Each (IsBefore q) ps
    → Each (IsBefore p) ps
each-behind p q [] before all = tt
each-behind p q (e ∷ es) before all =
    (before-trans p.0 q.0 e.0 before all.0, each-behind p q es before all.1)

pub each-placed : (P : Name × ℕ → Type 0) (p : Name × ℕ) (ps : List (Name × ℕ)) → P p → Each P ps
    → Each P (in_order pair_before p ps)
each-placed P p [] one all = (one, tt)
each-placed P p (q ∷ qs) one all = by (pair_before p q) (each-placed P p qs one all.1)
  where
    by : (t : Bool) → Each P (in_order pair_before p qs)
        → Each P (cond t (p ∷ q ∷ qs) (q ∷ in_order pair_before p qs))
    by true rec = (one, all)
    by false rec = (all.0, rec)

pub rise-placed : (p : Name × ℕ) (ps : List (Name × ℕ)) → named p.0 ps ≡ None → Rise ps
    → Rise (in_order pair_before p ps)
rise-placed p [] free rise = (tt, tt)
rise-placed p (q ∷ qs) free rise =
    let e = elsewhere p.0 q qs free in
    by (pair_before p q) refl (before-one p.0 q.0 (name_equiv.symm p.0 q.0 ∙ e.first))
    (rise-placed p qs e.rest rise.1)
  where
    by : (t : Bool) → pair_before p q ≡ t → pair_before q p ≡ not (pair_before p q)
        → Rise (in_order pair_before p qs)
        → Rise (cond t (p ∷ q ∷ qs) (q ∷ in_order pair_before p qs))
    by true is turn rec = ((is, each-behind p q qs is rise.0), rise)
    by false is turn rec = (each-placed (IsBefore q) p qs (turn ∙ ap not is) rise.0, rec)

-- names in order rise
pub rise-sorted : (ps : List (Name × ℕ)) → AreApart ps → Rise (sorted pair_before ps)
rise-sorted [] apart = tt
rise-sorted (p ∷ ps) apart =
    rise-placed p (sorted pair_before ps) (named-sorted p.0 ps apart.1 ∙ apart.0)
    (rise-sorted ps apart.1)

-- a name before all goes to the front
placed-front : (p : Name × ℕ) (ps : List (Name × ℕ)) → Each (IsBefore p) ps
    → in_order pair_before p ps ≡ p ∷ ps
placed-front p [] all = refl
placed-front p (q ∷ qs) all =
    ap (λ t. cond t (p ∷ q ∷ qs) (q ∷ in_order pair_before p qs)) all.0

each-left : (P : Name × ℕ → Type 0) (test : Name × ℕ → Bool) (ps : List (Name × ℕ)) → Each P ps
    → Each P (without test ps)
each-left P test [] all = tt
each-left P test (p ∷ ps) all = by (test p) (each-left P test ps all.1)
  where
    by : (t : Bool) → Each P (without test ps)
        → Each P (cond (not t) (p ∷ without test ps) (without test ps))
    by true rec = rec
    by false rec = (all.0, rec)

-- one that stays is at its place among those that stay
left-placed : (test : Name × ℕ → Bool) (p : Name × ℕ) (ps : List (Name × ℕ)) → Rise ps
    → test p ≡ false → without test (in_order pair_before p ps)
    ≡ in_order pair_before p (without test ps)
left-placed test p [] rise stays = ap (λ t. cond (not t) (p ∷ []) []) stays
left-placed test p (q ∷ qs) rise stays =
    by (pair_before p q) refl (left-placed test p qs rise.1 stays)
  where
    left : List (Name × ℕ)
    left = without test qs

    first : IsBefore p q → in_order pair_before p left ≡ p ∷ left
    first is = placed-front p left
        (each-left (IsBefore p) test qs (each-behind p q qs is rise.0))

    at : (t : Bool) → pair_before p q ≡ t
        → cond t (p ∷ q ∷ left) (q ∷ in_order pair_before p left)
        ≡ in_order pair_before p (q ∷ left)
    at t is = sym (ap (λ s. cond s (p ∷ q ∷ left) (q ∷ in_order pair_before p left)) is)

    front : IsBefore p q → (u : Bool) → p ∷ cond (not u) (q ∷ left) left
        ≡ in_order pair_before p (cond (not u) (q ∷ left) left)
    front is true = sym (first is)
    front is false = at true is

    behind : pair_before p q ≡ false
        → without test (in_order pair_before p qs) ≡ in_order pair_before p left → (u : Bool)
        → cond (not u) (q ∷ without test (in_order pair_before p qs))
        (without test (in_order pair_before p qs))
        ≡ in_order pair_before p (cond (not u) (q ∷ left) left)
    behind is rec true = rec
    behind is rec false = ap (λ ls. q ∷ ls) rec ∙ at false is

    by : (t : Bool) → pair_before p q ≡ t
        → without test (in_order pair_before p qs) ≡ in_order pair_before p left
        → without test (cond t (p ∷ q ∷ qs) (q ∷ in_order pair_before p qs))
        ≡ in_order pair_before p (without test (q ∷ qs))
    by true is rec =
        ap (λ s. cond (not s) (p ∷ without test (q ∷ qs)) (without test (q ∷ qs))) stays
        ∙ front is (test q)
    by false is rec = behind is rec (test q)

-- one that goes is no matter
gone-placed : (test : Name × ℕ → Bool) (p : Name × ℕ) (ps : List (Name × ℕ)) → test p ≡ true
    → without test (in_order pair_before p ps) ≡ without test ps
gone-placed test p [] goes = ap (λ t. cond (not t) (p ∷ []) []) goes
gone-placed test p (q ∷ qs) goes = by (pair_before p q) (gone-placed test p qs goes)
  where
    by : (t : Bool) → without test (in_order pair_before p qs) ≡ without test qs
        → without test (cond t (p ∷ q ∷ qs) (q ∷ in_order pair_before p qs))
        ≡ without test (q ∷ qs)
    by true rec = ap (λ t. cond (not t) (p ∷ without test (q ∷ qs)) (without test (q ∷ qs))) goes
    by false rec = ap (λ ls. cond (not (test q)) (q ∷ ls) ls) rec

-- the names that stay are in their order
pub sorted-freed : (test : Name × ℕ → Bool) (ps : List (Name × ℕ)) → AreApart ps
    → sorted pair_before (without test ps) ≡ without test (sorted pair_before ps)
sorted-freed test [] apart = refl
sorted-freed test (p ∷ ps) apart = by (test p) refl (sorted-freed test ps apart.1)
  where
    by : (t : Bool) → test p ≡ t
        → sorted pair_before (without test ps) ≡ without test (sorted pair_before ps)
        → sorted pair_before (cond (not t) (p ∷ without test ps) (without test ps))
        ≡ without test (in_order pair_before p (sorted pair_before ps))
    by true is rec = rec ∙ sym (gone-placed test p (sorted pair_before ps) is)
    by false is rec =
        ap (in_order pair_before p) rec
        ∙ sym (left-placed test p (sorted pair_before ps) (rise-sorted ps apart.1) is)

-- and differ still
pub apart-freed : (test : Name × ℕ → Bool) (ps : List (Name × ℕ)) → AreApart ps
    → AreApart (without test ps)
apart-freed test [] apart = tt
apart-freed test (p ∷ ps) apart = by (test p) (apart-freed test ps apart.1)
  where
    free : (qs : List (Name × ℕ)) → named p.0 qs ≡ None → named p.0 (without test qs) ≡ None
    free [] none = refl
    free (q ∷ qs) none = let e = elsewhere p.0 q qs none in at (test q) e.first (free qs e.rest)
      where
        at : (t : Bool) → same_name q.0 p.0 ≡ false → named p.0 (without test qs) ≡ None
            → named p.0 (cond (not t) (q ∷ without test qs) (without test qs)) ≡ None
        at true other rec = rec
        at false other rec =
            ap (λ s. cond s (Some q.1) (named p.0 (without test qs))) other ∙ rec

    by : (t : Bool) → AreApart (without test ps)
        → AreApart (cond (not t) (p ∷ without test ps) (without test ps))
    by true rec = rec
    by false rec = (free ps apart.0, rec)
