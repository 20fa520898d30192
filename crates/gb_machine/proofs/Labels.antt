-- The identifier that follows another.
use Rattle.std.proofs.Common.{◌≡◌, ◌<◌, ◌≤◌, ℕ, ◌+◌, Bool, true, false, cond, refl, arith, ltb}
use Rattle.std.proofs.lemmas.Bool.Decides.{nat_tests}
use Rattle.gb_machine.specs.Labels.{greatest_label, label_after}

-- behind one that isn't the greatest it is the next number
pub label_after-less : (label : ℕ) → label < greatest_label → label_after label ≡ label + 1
label_after-less label h = by (ltb label greatest_label) refl
  where
    by : (t : Bool) → ltb label greatest_label ≡ t → cond t (label + 1) 1 ≡ label + 1
    by true e = refl
    by false e = absurd (grind (arith, nat_tests))

-- it is an identifier
pub label_after-within : (label : ℕ) → (1 ≤ label_after label)
    × (label_after label ≤ greatest_label)
label_after-within label = by (ltb label greatest_label) refl
  where
    by : (t : Bool) → ltb label greatest_label ≡ t
        → (1 ≤ cond t (label + 1) 1) × (cond t (label + 1) 1 ≤ greatest_label)
    by true e = let less : label < greatest_label = grind (arith, nat_tests) in
        (omega arith, omega (arith, less))
    by false e = (omega arith, omega arith)
