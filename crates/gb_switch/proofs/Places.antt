-- The order of ends is that in which queues are settled, and tells all ends apart.
use Rattle.std.proofs.Common.{◌≡◌, ◌≢◌, ℕ, Bool, true, false, nat_lt, ◌==◌, ◌&&◌, ◌||◌, refl, ap}
use Rattle.std.proofs.Common.{arith, Equal, rules, ◌⊎◌, inl, inr, sym, ◌∙◌}
use Rattle.std.proofs.lemmas.Bool.{true≢false}
use Rattle.std.proofs.lemmas.Bool.Decides.{nat_tests}
use Rattle.std.proofs.lemmas.Cmp.{tied_itself}
use Rattle.std.specs.Ordering.{is_eq, is_gt, nat_cmp, ordering_then}
use Rattle.gb_base.specs.declared.end.End.{End}
use Rattle.gb_base.specs.declared.end.End.TheVariants as end
use Rattle.gb_machine.specs.Waiting.{end_before}
use Rattle.gb_switch.specs.Places.{end_cmp, end_total, key_of, same_key}

-- ---- ends that compare equal

one-key : (a b : End) → key_of a ≡ key_of b → a ≡ b
one-key end.Svc end.Svc e = refl
one-key end.Svc (end.Ap b) e = absurd (cc e)
one-key end.Svc (end.Module j d) e = absurd (cc e)
one-key (end.Ap a) end.Svc e = absurd (cc e)
one-key (end.Ap a) (end.Ap b) e = cc e
one-key (end.Ap a) (end.Module j d) e = absurd (cc e)
one-key (end.Module i c) end.Svc e = absurd (cc e)
one-key (end.Module i c) (end.Ap b) e = absurd (cc e)
one-key (end.Module i c) (end.Module j d) e = cc e

-- ends that compare equal are one
pub cmp-same : (a b : End) → is_eq (end_cmp a b) ≡ true → a ≡ b
cmp-same a b e = one-key a b (same_key a b e)

pub cmp-own : (a : End) → is_eq (end_cmp a a) ≡ true
cmp-own a = ap is_eq (tied_itself end_total a)

pub by-false : (b : Bool) → (b ≡ true → ⊥) → b ≡ false
by-false true never = absurd (never refl)
by-false false never = refl

pub cmp-other : (a b : End) → a ≢ b → is_eq (end_cmp a b) ≡ false
cmp-other a b ne = by-false (is_eq (end_cmp a b)) (λ e. ne (cmp-same a b e))

-- ---- the order in which queues are settled

number-greater : (a b : ℕ) → nat_lt a b ≡ true
    → is_gt (ordering_then (nat_cmp b a) Equal) ≡ true
number-greater a b e = grind (arith, nat_tests)

pair-greater : (i c j d : ℕ) → (nat_lt i j || i == j && nat_lt c d) ≡ true
    → is_gt (ordering_then (nat_cmp j i) (ordering_then (nat_cmp d c) Equal)) ≡ true
pair-greater i c j d e = grind (arith, nat_tests, rules)

-- an end that is settled before another is less
pub settled-before : (a b : End) → end_before a b ≡ true → is_gt (end_cmp b a) ≡ true
settled-before end.Svc end.Svc e = absurd (cc e)
settled-before end.Svc (end.Ap b) e = refl
settled-before end.Svc (end.Module j d) e = refl
settled-before (end.Ap a) end.Svc e = absurd (cc e)
settled-before (end.Ap a) (end.Ap b) e = number-greater a b e
settled-before (end.Ap a) (end.Module j d) e = refl
settled-before (end.Module i c) end.Svc e = absurd (cc e)
settled-before (end.Module i c) (end.Ap b) e = absurd (cc e)
settled-before (end.Module i c) (end.Module j d) e = pair-greater i c j d e

-- two ends are one, or apart
pub is-end : (a b : End) → (a ≡ b) ⊎ (a ≢ b)
is-end a b = by (is_eq (end_cmp a b)) refl
  where
    by : (t : Bool) → is_eq (end_cmp a b) ≡ t → (a ≡ b) ⊎ (a ≢ b)
    by true e = inl (cmp-same a b e)
    by false e =
        inr (λ same. true≢false
        (sym (cmp-own a) ∙ ap (λ r. is_eq (end_cmp a r)) same ∙ e))
