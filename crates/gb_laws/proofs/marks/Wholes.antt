-- What is plugged: the module of an interface, and that each module is whole.
use Rattle.std.proofs.Common.{Bool, List, None, Option, Some, ap, arith, false, inl, inr, refl, suc}
use Rattle.std.proofs.Common.{sym, true, zero, ℕ, ⊎_elim, ◌+◌, ◌<◌, ◌∙◌, ◌∷◌, ◌≡◌, ◌≢◌, ◌≤◌}
use Rattle.std.proofs.lemmas.Bool.Decides.{nat_tests}
use Rattle.std.specs.List.{find}
use Rattle.std.specs.Prelude.{is_some, nat_le, nat_lt, option_map, ◌==◌}
use Rattle.gb_machine.specs.{Lists.span, Members.EachTwo, Members.IsIn, Modules.is_plugged}
use Rattle.gb_machine.specs.{Modules.is_plugged_at, State.Plugged}
use Rattle.gb_machine.specs.Lists.{at_first}
use Rattle.gb_machine.specs.Refusals.{is_beyond}
use Rattle.gb_machine.specs.Lists.{is_within}
use Rattle.gb_invariants.proofs.Awaiting.{none-some, not-both, same-some}
use Rattle.gb_invariants.proofs.{Found.find-none, Lists.found-in, Lists.one-by}
use Rattle.gb_invariants.proofs.Outcomes.{both-true, is-same, same-number}
use Rattle.gb_invariants.proofs.Lists.{at_first-back, in-at_first}

-- ---- what is plugged at an interface

-- the module that is plugged at an interface, by its primary interface
abbrev pub plugged_at : ℕ → List Plugged → Option ℕ
plugged_at i modules = option_map (λ (p : Plugged). p.primary) (find (is_plugged_at i) modules)

pub plugged-none : (i : ℕ) (ms : List Plugged) → is_plugged i ms ≡ false → plugged_at i ms ≡ None
plugged-none i ms e = by (find (is_plugged_at i) ms) e
  where
    by : (o : Option Plugged) → is_some (option_map (λ (x : Plugged). x.body) o) ≡ false
        → option_map (λ (x : Plugged). x.primary) o ≡ None
    by None f = refl
    by (Some x) f = absurd (not-both true refl f)

-- a module is plugged still
pub still-plugged : (i : ℕ) (ms ns : List Plugged) → plugged_at i ms ≡ plugged_at i ns
    → is_plugged i ms ≡ is_plugged i ns
still-plugged i ms ns e = there ms ∙ ap is_some e ∙ sym (there ns)
  where
    there : (xs : List Plugged) → is_plugged i xs ≡ is_some (plugged_at i xs)
    there xs = by (find (is_plugged_at i) xs)
      where
        by : (o : Option Plugged) → is_some (option_map (λ (x : Plugged). x.body) o)
            ≡ is_some (option_map (λ (x : Plugged). x.primary) o)
        by None = refl
        by (Some x) = refl

-- ---- modules are whole

-- a module can have so many interfaces, from this one on
pub record IsRange (p count : ℕ) : Type 0 where
  pub two : 2 ≤ p
  pub one : 1 ≤ count
  pub within : p + count ≤ 32

pub range-of : (p count : ℕ) → 2 ≤ p → 1 ≤ count → is_beyond p count ≡ false → IsRange p count
range-of p count two one within =
    record { two = two; one = one; within = grind (arith, nat_tests, within) }

-- two parts are at different interfaces
abbrev pub AreElsewhere : Plugged → Plugged → Type 0
AreElsewhere p q = p.intf ≢ q.intf

-- a part of a module is plugged at an interface
pub record HasPart (j p count : ℕ) (ms : List Plugged) : Type 0 where
  pub part : Plugged
  pub there : IsIn part ms
  pub intf : part.intf ≡ j
  pub primary : part.primary ≡ p
  pub many : part.count ≡ count

-- Each interface is plugged of the module of which this is a part.
pub record IsWhole (ms : List Plugged) (x : Plugged) : Type 0 where
  pub range : IsRange x.primary x.count
  pub from : x.primary ≤ x.intf
  pub below : x.intf < x.primary + x.count
  pub each : (j : ℕ) → x.primary ≤ j → j < x.primary + x.count
      → HasPart j x.primary x.count ms

-- What is plugged is whole.
abbrev pub AreWhole : List Plugged → Type 0
AreWhole ms = (x : Plugged) → IsIn x ms → IsWhole ms x

-- ---- spans

pub within-true : (p count i : ℕ) → is_within p count i ≡ true → (p ≤ i) × (i < p + count)
within-true p count i e =
    let b = both-true (nat_le p i) (nat_lt i (p + count)) e in
    let from = b.0 in let below = b.1 in (grind (arith, nat_tests), grind (arith, nat_tests))

pub true-within : (p count i : ℕ) → p ≤ i → i < p + count → is_within p count i ≡ true
true-within p count i from below = grind (arith, nat_tests)

pub span-in : (j n count : ℕ) → n ≤ j → j < n + count → IsIn j (span n count)
span-in j n zero from below = absurd (omega (arith, from, below))
span-in j n (suc more) from below = by (j == n) refl
    (λ above. span-in j (n + 1) more above (omega (arith, below)))
  where
    by : (t : Bool) → (j == n) ≡ t → (n + 1 ≤ j → IsIn j (span (n + 1) more))
        → IsIn j (n ∷ span (n + 1) more)
    by true e rec = inl (same-number j n e)
    by false e rec = inr (rec (grind (arith, nat_tests, e, from)))

-- ---- parts

-- what is plugged at one interface is one
pub one-part : (ms : List Plugged) (x y : Plugged) → EachTwo AreElsewhere ms → IsIn x ms → IsIn y ms
    → x.intf ≡ y.intf → x ≡ y
one-part ms x y differ i j same = one-by (λ (p : Plugged). p.intf) ms x y differ i j same

pub found-part : (ms : List Plugged) (x : Plugged) → EachTwo AreElsewhere ms → IsIn x ms
    → find (is_plugged_at x.intf) ms ≡ Some x
found-part ms x differ i = by (find (is_plugged_at x.intf) ms) refl
  where
    by : (o : Option Plugged) → find (is_plugged_at x.intf) ms ≡ o → o ≡ Some x
    by None e = absurd (not-both (x.intf == x.intf) (is-same x.intf)
        (find-none (is_plugged_at x.intf) ms x e i))
    by (Some y) e = let f = found-in (is_plugged_at x.intf) ms y e in
        ap Some (one-part ms y x differ f.0 i (same-number y.intf x.intf f.1))

-- a part of this module is plugged at an interface
pub record IsPartAt (j p : ℕ) (ms : List Plugged) : Type 0 where
  pub part : Plugged
  pub there : IsIn part ms
  pub intf : part.intf ≡ j
  pub primary : part.primary ≡ p

pub part-at : (j p : ℕ) (ms : List Plugged) → plugged_at j ms ≡ Some p → IsPartAt j p ms
part-at j p ms e = by (find (is_plugged_at j) ms) refl e
  where
    by : (o : Option Plugged) → find (is_plugged_at j) ms ≡ o
        → option_map (λ (x : Plugged). x.primary) o ≡ Some p → IsPartAt j p ms
    by None f g = absurd (none-some g)
    by (Some x) f g = let k = found-in (is_plugged_at j) ms x f in record {
      part = x;
      there = k.0;
      intf = same-number x.intf j k.1;
      primary = same-some x.primary p g;
    }

-- ---- the interfaces of a module

module _ (ms : List Plugged) (differ : EachTwo AreElsewhere ms) (whole : AreWhole ms)
    (x : Plugged) (here : IsIn x ms) where
  -- at each of them it is plugged
  pub whole-there : (j : ℕ) → x.primary ≤ j → j < x.primary + x.count
      → plugged_at j ms ≡ Some x.primary
  whole-there j from below =
      let h = (whole x here).each j from below in
      ap (λ k. plugged_at k ms) (sym h.intf)
      ∙ ap (option_map (λ (p : Plugged). p.primary)) (found-part ms h.part differ h.there)
      ∙ ap Some h.primary

  -- and at no other
  pub whole-only : (j : ℕ) → plugged_at j ms ≡ Some x.primary
      → (x.primary ≤ j) × (j < x.primary + x.count)
  whole-only j e =
      let a = part-at j x.primary ms e in
      let w = whole a.part a.there in
      let one = w.range.one in
      let own = (whole x here).range.one in
      let h = (whole x here).each x.primary (omega arith) (omega (arith, own)) in
      let k = w.each a.part.primary (omega arith) (omega (arith, one)) in
      let same = one-part ms h.part k.part differ h.there k.there
      (h.intf ∙ sym a.primary ∙ sym k.intf) in
      let counts = sym k.many ∙ ap (λ (v : Plugged). v.count) (sym same) ∙ h.many in
      let from = w.from in
      let below = w.below in
      let primary = a.primary in
      let intf = a.intf in
      (omega arith, omega arith)

-- ---- where what is plugged changes

range-as : (p count q many : ℕ) → q ≡ p → many ≡ count → IsRange p count → IsRange q many
range-as p count q many e f r = record {
  two = omega (arith, r.two);
  one = omega (arith, r.one);
  within = omega (arith, r.within);
}

-- a part like another is whole where the parts of that stay
pub whole-as : {ms ns : List Plugged} (y x : Plugged) → x.intf ≡ y.intf → x.primary ≡ y.primary
    → x.count ≡ y.count → ((j p count : ℕ) → HasPart j p count ms → HasPart j p count ns)
    → IsWhole ms y → IsWhole ns x
whole-as y x intf primary count parts w = record {
  range = range-as y.primary y.count x.primary x.count primary count w.range;
  from = omega (arith, w.from);
  below = omega (arith, w.below);
  each = λ j from below.
      let h = parts j y.primary y.count (w.each j (omega arith) (omega arith)) in record {
        part = h.part;
        there = h.there;
        intf = h.intf;
        primary = h.primary ∙ sym primary;
        many = h.many ∙ sym count;
      };
}

-- where one part changes, but for what it is a part of
pub whole-changed : (i : ℕ) (f : Plugged → Plugged) (ms : List Plugged)
    → ((x : Plugged) → (f x).intf ≡ x.intf) → ((x : Plugged) → (f x).primary ≡ x.primary)
    → ((x : Plugged) → (f x).count ≡ x.count) → AreWhole ms
    → AreWhole (at_first (is_plugged_at i) f ms)
whole-changed i f ms intf primary count h x k = ⊎_elim
    (λ o. whole-as x x refl refl refl parts (h x o))
    (λ w. whole-as w.0 x (ap (λ (v : Plugged). v.intf) w.3 ∙ intf w.0)
    (ap (λ (v : Plugged). v.primary) w.3 ∙ primary w.0)
    (ap (λ (v : Plugged). v.count) w.3 ∙ count w.0) parts (h w.0 w.1))
    (in-at_first (is_plugged_at i) f ms x k)
  where
    parts : (j p count : ℕ) → HasPart j p count ms
        → HasPart j p count (at_first (is_plugged_at i) f ms)
    parts j p many q = ⊎_elim (λ o. record {
      part = q.part;
      there = o;
      intf = q.intf;
      primary = q.primary;
      many = q.many;
    }) (λ w. record {
      part = f q.part;
      there = w;
      intf = intf q.part ∙ q.intf;
      primary = primary q.part ∙ q.primary;
      many = count q.part ∙ q.many;
    }) (at_first-back (is_plugged_at i) f ms q.part q.there)
