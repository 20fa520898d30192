-- Two changes of a list, one after the other.
use Rattle.std.proofs.Common.{◌≡◌, Bool, true, false, cond, List, [], ◌∷◌, refl, ap, ◌∙◌}
use Rattle.gb_machine.specs.Lists.{at_first}

-- two changes of the first that passes are one
pub twice : {A : Type 0} (test : A → Bool) (f g : A → A) (xs : List A)
    → ((x : A) → test (g x) ≡ test x)
    → at_first test f (at_first test g xs) ≡ at_first test (λ x. f (g x)) xs
twice test f g [] same = refl
twice test f g (x ∷ xs) same = by (test x) refl (twice test f g xs same)
  where
    by : (b : Bool) → test x ≡ b → at_first test f (at_first test g xs)
        ≡ at_first test (λ y. f (g y)) xs
        → at_first test f (cond b (g x ∷ xs) (x ∷ at_first test g xs))
        ≡ cond b (f (g x) ∷ xs) (x ∷ at_first test (λ y. f (g y)) xs)
    by true e later = ap (λ b. cond b (f (g x) ∷ xs) (g x ∷ at_first test f xs)) (same x ∙ e)
    by false e later = ap (λ b. cond b (f x ∷ at_first test g xs)
        (x ∷ at_first test f (at_first test g xs))) e ∙ ap (λ ys. x ∷ ys) later
