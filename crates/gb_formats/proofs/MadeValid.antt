-- Each line of the made script is an event that the machine may be given.
use Rattle.std.proofs.Common.{◌≡◌, ◌≤◌, ◌<◌, ℕ, zero, suc, ◌+◌, ◌-◌, ◌%◌, ◌^◌, Bool, true, false}
use Rattle.std.proofs.Common.{List, [], ◌∷◌, ◌++◌, refl, arith, inl, inr}
use Rattle.std.proofs.lemmas.Bool.Decides.{nat_tests}
use Rattle.std.proofs.lemmas.Fmt.{decimal_by_steps, length-decimal-le}
use Rattle.std.specs.Prelude.{◌==◌, nat_le, if◌then◌else◌}
use Rattle.std.specs.Fmt.{decimal}
use Rattle.std.specs.List.{list_all}
use Rattle.gb_base.specs.Name.{is_name_byte}
use Rattle.gb_base.specs.declared.event.Event.{Event}
use Rattle.gb_formats.specs.Made.{made, made_by, made_name, made_intf, made_value, made_row}
use Rattle.gb_formats.specs.Made.{last_named, made_lines}
use Rattle.gb_formats.specs.ValidEvents.{IsValid, IsName, IsIntf}

-- a byte more that can stand in a name
grown_name : (xs : List ℕ) (b : ℕ) → list_all is_name_byte xs ≡ true → is_name_byte b ≡ true
    → list_all is_name_byte (xs ++ b ∷ []) ≡ true
grown_name [] b h k = grind (arith, nat_tests)
grown_name (x ∷ xs) b h k =
    let rest = grown_name xs b (grind (arith, nat_tests)) k in grind (arith, nat_tests)

-- a decimal can stand in a name
decimal_name : (n : ℕ) → n < 2 ^ 64 → list_all is_name_byte (decimal n) ≡ true
decimal_name =
    decimal_by_steps (λ m ds. list_all is_name_byte ds ≡ true)
    (λ m low. grind (arith, nat_tests))
    (λ m ds low rest. grown_name ds (48 + m % 10) rest (grind (arith, nat_tests)))

-- `@nk` is a name
pub made_name-valid : (k : ℕ) → k < 100000 → IsName (made_name k)
made_name-valid k small =
    let rest = decimal_name k (omega arith) in
    let len = length-decimal-le 5 k (omega arith) (omega arith) (omega arith) in
    grind (arith, nat_tests)

-- the greatest number from 1 to k is at most k
last_named-most : (seed k : ℕ) → last_named seed k ≤ k
unfolding last_named
last_named-most seed zero = omega arith
last_named-most seed (suc k) = by (nat_le (made_row seed (suc k)) 3) (last_named-most seed k)
  where
    by : (b : Bool) → last_named seed k ≤ k
        → (if b then suc k else last_named seed k) ≤ suc k
    by true h = omega arith
    by false h = omega arith

-- one of two events
event-if : (b : Bool) (x y : Event) → IsValid x → IsValid y → IsValid (if b then x else y)
event-if true x y h k = h
event-if false x y h k = k

made_by-valid : (k named row i v : ℕ) → k < 100000 → named < 100000 → IsIntf i → v ≤ 7
    → IsValid (made_by k named row i v)
made_by-valid k named row i v small below at most =
    event-if (nat_le row 1) _ _
    (name, at, omega arith, inr (inl (inl refl, omega arith, refl)))
    (event-if (row == 2) _ _
    (name, at, omega arith, (omega arith, ((omega arith, omega arith), tt)))
    (event-if (row == 3) _ _ (name, at, omega arith, tt)
    (event-if (row == 4) _ _ (omega arith, omega arith)
    (event-if (row == 5) _ _ (made_name-valid named below)
    (event-if (row == 6) _ _ (omega arith, omega arith)
    (at, omega arith))))))
  where
    name : IsName (made_name k)
    name = made_name-valid k small

-- an event where a condition holds, and where it doesn't
event-by : (b : Bool) (x y : Event) → (b ≡ true → IsValid x) → (b ≡ false → IsValid y)
    → IsValid (if b then x else y)
event-by true x y h k = h refl
event-by false x y h k = k refl

-- Each line of the made script is a valid event.
pub made-valid : (seed k : ℕ) → 1 ≤ k → k ≤ made_lines → IsValid (made seed k)
made-valid seed k low high =
    event-by (nat_le k 4) _ _ (λ h. (grind (arith, nat_tests), grind (arith, nat_tests))) (λ a.
    event-by (k == 5) _ _ (λ h. tt) (λ b.
    event-by (k == 6) _ _ (λ h. (omega arith, omega arith)) (λ c.
    event-by (nat_le k 22) _ _
    (λ h. ((grind (arith, nat_tests), grind (arith, nat_tests)), grind (arith, nat_tests))) (λ d.
    event-by (k == 23) _ _ (λ h. (omega arith, omega arith)) (λ e.
    event-by (nat_le k 20023) _ _
    (λ h. made_by-valid (k - 23) (last_named seed (k - 23 - 1)) (made_row seed (k - 23))
    (made_intf seed (k - 23)) (made_value seed (k - 23)) (omega arith)
    (omega (arith, last_named-most seed (k - 23 - 1))) (omega arith, omega arith)
    (omega arith))
    (λ g. (omega arith, omega arith)))))))
