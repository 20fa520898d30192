-- The least request whose deadline came.
use Rattle.std.proofs.Common.{◌≡◌, ◌<◌, ◌≤◌, ℕ, Bool, true, false, cond, ◌⊎◌, inl, inr, Option}
use Rattle.std.proofs.Common.{Some, None, List, [], ◌∷◌, Less, refl, sym, ap, ◌∙◌, arith, leb}
use Rattle.std.proofs.lemmas.Bool.{cases_eq}
use Rattle.std.proofs.lemmas.Bool.Decides.{nat_tests}
use Rattle.std.proofs.lemmas.Map.Keys.{sorted_head, sorted_tail}
use Rattle.std.specs.List.{AllByRecursion}
use Rattle.std.specs.List.Sorted.{IsStrictlySortedBy}
use Rattle.std.specs.Map.{keys_of}
use Rattle.std.specs.Ordering.{nat_cmp}
use Rattle.gb_ops.proofs.Maps.{first-found, later-found, not-above, same_some}
use Rattle.gb_ops.specs.Finding.{FindsDue, due_in}
use Rattle.gb_ops.specs.Places.{pending_among as at}
use Rattle.gb_ops.specs.declared.entries.Pending.{Pending}

-- what is found in others is above what all their numbers are above
above-found : (k m : ℕ) (p : Pending) (es : List (ℕ × Pending))
    → AllByRecursion (λ y. nat_cmp k y ≡ Less) (keys_of es) → at es m ≡ Some p → k < m
above-found k m p es all there = by (lower m k)
  where
    lower : (a b : ℕ) → (a ≤ b) ⊎ (b < a)
    lower a b = grind (arith, nat_tests)

    by : (m ≤ k) ⊎ (k < m) → k < m
    by (inl le) = absurd (cc (there, not-above k m es le all))
    by (inr low) = low

-- an entry before the others, the least
step : (now : ℕ) (e : ℕ × Pending) (es : List (ℕ × Pending))
    → AllByRecursion (λ y. nat_cmp e.0 y ≡ Less) (keys_of es) → (r : Option ℕ) (t : Bool)
    → leb e.1.deadline now ≡ t → FindsDue (at es) now r
    → FindsDue (at (e ∷ es)) now (cond t (Some e.0) r)
step now e es all r true is f = record {
  is_due = record {
    found = e.1;
    there = first-found e.0 e es refl;
    due = let came : e.1.deadline ≤ now = grind (arith, nat_tests) in came;
  };
  least = λ m p h d. by m p h (cases_eq m e.0);
}
  where
    by : (m : ℕ) (p : Pending) → at (e ∷ es) m ≡ Some p → (m ≡ e.0) ⊎ (m ≡ e.0 → ⊥) → e.0 ≤ m
    by m p h (inl same) = omega (arith, same)
    by m p h (inr ne) =
        let low = above-found e.0 m p es all (sym (later-found m e es ne) ∙ h) in omega (arith, low)
step now e es all (Some n) false is f = record {
  is_due = record {
    found = f.is_due.found;
    there = later-found n e es (λ same. omega (arith, low, same)) ∙ f.is_due.there;
    due = f.is_due.due;
  };
  least = λ m p h d. by m p h d (cases_eq m e.0);
}
  where
    low : e.0 < n
    low = above-found e.0 n f.is_due.found es all f.is_due.there

    late : now < e.1.deadline
    late = grind (arith, nat_tests)

    by : (m : ℕ) (p : Pending) → at (e ∷ es) m ≡ Some p → p.deadline ≤ now
        → (m ≡ e.0) ⊎ (m ≡ e.0 → ⊥) → n ≤ m
    by m p h d (inl same) =
        let deadline = ap (λ x. x.deadline) (same_some e.1 p (sym (first-found m e es same) ∙ h)) in
        absurd (omega (arith, deadline, late, d))
    by m p h d (inr ne) = f.least m p (sym (later-found m e es ne) ∙ h) d
step now e es all None false is f = λ m p h. by m p h (cases_eq m e.0)
  where
    late : now < e.1.deadline
    late = grind (arith, nat_tests)

    by : (m : ℕ) (p : Pending) → at (e ∷ es) m ≡ Some p → (m ≡ e.0) ⊎ (m ≡ e.0 → ⊥)
        → now < p.deadline
    by m p h (inl same) =
        let deadline = ap (λ x. x.deadline) (same_some e.1 p (sym (first-found m e es same) ∙ h)) in
        omega (arith, deadline, late)
    by m p h (inr ne) = f m p (sym (later-found m e es ne) ∙ h)

-- The first in order whose deadline came is the least.
pub finds_due : (now : ℕ) (es : List (ℕ × Pending)) → IsStrictlySortedBy nat_cmp (keys_of es)
    → FindsDue (at es) now (due_in now es)
finds_due now [] s = λ m p h. absurd cc
finds_due now (e ∷ es) s =
    step now e es (sorted_head nat_cmp e.0 (keys_of es) s) (due_in now es)
    (leb e.1.deadline now) refl (finds_due now es (sorted_tail nat_cmp e.0 (keys_of es) s))
