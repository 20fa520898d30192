-- The slots of interfaces.
use Rattle.std.proofs.Common.{◌≡◌, ℕ, zero, suc, ◌<◌, false, cond, eqb, Option, Some, None, List}
use Rattle.std.proofs.Common.{[], ◌∷◌, length, slice_set, refl, sym, ap, ◌∙◌, arith, replicate}
use Rattle.std.proofs.lemmas.Bool.Decides.{nat_tests}
use Rattle.std.specs.List.{slice_get}
use Rattle.std.proofs.lemmas.Option.{slice_get_within}
use Rattle.gb_switch.specs.Levels.{in_slot, plugged_at}
use Rattle.gb_switch.specs.declared.ladder.Ladder.{Ladder}
use Rattle.gb_switch.specs.declared.port.Port.{Port}

-- one slot is written
pub set_slot : (xs : List (Option Port)) (k j : ℕ) (o : Option Port) → k < length xs
    → in_slot (slice_get (slice_set xs k o) j) ≡ cond (eqb j k) o (in_slot (slice_get xs j))
set_slot [] k j o h = absurd (omega arith)
set_slot (x ∷ xs) zero zero o h = refl
set_slot (x ∷ xs) zero (suc j) o h =
    let e : eqb (suc j) 0 ≡ false = grind (arith, nat_tests) in
    ap (λ b. cond b o (in_slot (slice_get xs j))) (sym e)
set_slot (x ∷ xs) (suc k) zero o h =
    let e : eqb 0 (suc k) ≡ false = grind (arith, nat_tests) in
    ap (λ b. cond b o (in_slot (Some x))) (sym e)
set_slot (x ∷ xs) (suc k) (suc j) o h =
    let e : eqb (suc j) (suc k) ≡ eqb j k = grind (arith, nat_tests) in
    set_slot xs k j o (omega arith) ∙ ap (λ b. cond b o (in_slot (slice_get xs j))) (sym e)

-- all are empty
pub empty_slot : (n j : ℕ) → in_slot (slice_get (replicate n None) j) ≡ None
empty_slot zero j = refl
empty_slot (suc n) zero = refl
empty_slot (suc n) (suc j) = empty_slot n j

-- what is plugged has one of the slots
pub plugged_within : (x : Ladder) (i : ℕ) (p : Port) → plugged_at i x ≡ Some p → i < length x.ports
plugged_within x i p h = by (slice_get x.ports i) refl h
  where
    by : (o : Option (Option Port))
        → slice_get x.ports i ≡ o → in_slot o ≡ Some p → i < length x.ports
    by None e k = cc k
    by (Some v) e k = slice_get_within x.ports i v e
