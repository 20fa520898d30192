-- Where live connections stand, and what a change there is by number.
use Rattle.std.proofs.Common.{◌≡◌, ℕ, zero, suc, Bool, true, false, cond, Some, None, List, []}
use Rattle.std.proofs.Common.{◌∷◌, eqb, refl, sym, ap, ◌∙◌, subst, arith}
use Rattle.std.proofs.lemmas.Bool.Decides.{nat_tests}
use Rattle.std.proofs.lemmas.Map.Keys.{IsDistinct-head, IsDistinct-tail}
use Rattle.std.proofs.lemmas.Map.Made.{lookup_key_passes}
use Rattle.std.specs.List.{AllByRecursion, IsDistinct}
use Rattle.std.specs.Map.{keys_of, lookup, lookup_key, set_value, values_of}
use Rattle.std.specs.Prelude.{slice_get}
use Rattle.indexmap.specs.IndexMap.{IsUnique, get, set_value_at, values}
use Rattle.gb_bus.proofs.Entries.{other-number, same-number, same-some, some-none}
use Rattle.gb_bus.specs.Index.{Live}
use Rattle.gb_bus.specs.Numbered.{StandsAt}
use Rattle.gb_bus.specs.declared.connection.Connection as code

one-number : (n k : ℕ) → eqb n k ≡ true → n ≡ k
one-number n k e = grind (arith, nat_tests)

-- ---- where one stands

pub stands-at : (live : Live) (k at n : ℕ) (x : code.Connection) → eqb n k ≡ true
    → slice_get live.entries at ≡ Some (n, x) → get eqb live n ≡ Some x → StandsAt live k at
stands-at live k at n x same there is = record {
  connection = x;
  there = there ∙ ap (λ j. Some (j, x)) (one-number n k same);
  is = ap (get eqb live) (sym (one-number n k same)) ∙ is;
}

pub found-at : (live : Live) (k at q : ℕ) (x : code.Connection)
    → Some q ≡ lookup_key (eqb k) live.entries → Some x ≡ get eqb live k
    → slice_get live.entries at ≡ Some (q, x) → StandsAt live k at
found-at live k at q x key is there = record {
  connection = x;
  there =
      there
      ∙ ap (λ j. Some (j, x))
      (sym (one-number k q (lookup_key_passes (eqb k) live.entries q (sym key))));
  is = sym is;
}

-- ---- a change there

key-at : {X : Type 0} (P : ℕ → Type 0) (k at : ℕ) (x : X) (es : List (ℕ × X))
    → AllByRecursion P (keys_of es) → slice_get es at ≡ Some (k, x) → P k
key-at P k at x [] all there = absurd (cc there)
key-at P k zero x (e ∷ es) all there =
    subst P (ap (λ p. p.0) (same-some e (k, x) there)) all.0
key-at P k (suc at) x (e ∷ es) all there = key-at P k at x es all.1 there

set-at : {X : Type 0} (k at : ℕ) (x y : X) (es : List (ℕ × X)) → IsDistinct eqb (keys_of es)
    → slice_get es at ≡ Some (k, x) → set_value_at es at y ≡ set_value (eqb k) es y
set-at k at x y [] d there = absurd (cc there)
set-at k zero x y (e ∷ es) d there =
    sym (ap (λ t. cond t ((e.0, y) ∷ es) (e ∷ set_value (eqb k) es y))
    (same-number k e.0 (sym (ap (λ p. p.0) (same-some e (k, x) there)))))
set-at k (suc at) x y (e ∷ es) d there =
    ap (λ fs. e ∷ fs) (set-at k at x y es (IsDistinct-tail eqb e.0 (keys_of es) d) there)
    ∙ sym (ap (λ t. cond t ((e.0, y) ∷ es) (e ∷ set_value (eqb k) es y))
    (other-number k e.0 (other (key-at (λ j. eqb e.0 j ≡ false) k at x es
    (IsDistinct-head eqb e.0 (keys_of es) d) there))))
  where
    other : eqb e.0 k ≡ false → k ≡ e.0 → ⊥
    other apart same = absurd (cc (apart, same-number e.0 k (sym same)))

value-at : {X : Type 0} (k at : ℕ) (x : X) (es : List (ℕ × X)) → slice_get es at ≡ Some (k, x)
    → slice_get (values_of es) at ≡ Some x
value-at k at x [] there = absurd (cc there)
value-at k zero x (e ∷ es) there = ap (λ p. Some p.1) (same-some e (k, x) there)
value-at k (suc at) x (e ∷ es) there = value-at k at x es there

-- the connection with a number is what is left where it stands
pub changes-at : (live : Live) (k at : ℕ) → StandsAt live k at → IsUnique eqb live
    → (y : code.Connection) → set_value_at live.entries at y ≡ set_value (eqb k) live.entries y
changes-at live k at s unique y = set-at k at s.connection y live.entries unique s.there

-- and what stands there
pub value-is : (live : Live) (k at : ℕ) → StandsAt live k at
    → slice_get (values live) at ≡ get eqb live k
value-is live k at s = value-at k at s.connection live.entries s.there ∙ sym s.is

-- where none has the number none changes
pub set-none : {X : Type 0} (k : ℕ) (y : X) (es : List (ℕ × X)) → lookup (eqb k) es ≡ None
    → es ≡ set_value (eqb k) es y
set-none k y [] none = refl
set-none k y (e ∷ es) none = by (eqb k e.0) none (set-none k y es)
  where
    by : (b : Bool) → cond b (Some e.1) (lookup (eqb k) es) ≡ None
        → (lookup (eqb k) es ≡ None → es ≡ set_value (eqb k) es y)
        → e ∷ es ≡ cond b ((e.0, y) ∷ es) (e ∷ set_value (eqb k) es y)
    by true found later = absurd (some-none e.1 found)
    by false gone later = ap (λ fs. e ∷ fs) (later gone)
