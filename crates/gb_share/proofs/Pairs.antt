-- A fact of each of three members.
use Rattle.std.proofs.Common.{◌≡◌, ℕ, suc, zero, Some, [], ◌∷◌, subst}
use Rattle.std.specs.List.{slice_get}

pub each_of_three : {A : Type 0} (P : ℕ → A → Type 0) (x y z : A) → P 0 x → P 1 y → P 2 z → (n : ℕ)
    (w : A) → slice_get (x ∷ y ∷ z ∷ []) n ≡ Some w → P n w
each_of_three P x y z p q r zero w at = subst (P 0) (let same : x ≡ w = cc in same) p
each_of_three P x y z p q r (suc zero) w at = subst (P 1) (let same : y ≡ w = cc in same) q
each_of_three P x y z p q r (suc (suc zero)) w at = subst (P 2) (let same : z ≡ w = cc in same) r
each_of_three P x y z p q r (suc (suc (suc n))) w at = absurd cc
