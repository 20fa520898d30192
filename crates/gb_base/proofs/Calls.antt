-- Numbers of calls.
use Rattle.std.proofs.Common.{◌≡◌, ◌==◌, ℕ, ◌<◌, ◌≤◌, ◌^◌, false, List, [], ◌∷◌, get_or, refl}
use Rattle.std.proofs.Common.{arith, suc, Fits, w64}
use Rattle.std.proofs.lemmas.Bool.Decides.{nat_tests}
use Rattle.std.proofs.Math.Facts.{Fits-lt-pow}
use Rattle.std.specs.List.{list_any}

-- a number past all numbers of 64 bits is in no list of these
pub none_past : (ns : List ℕ) (n : ℕ) → ((k : ℕ) → Fits w64 (get_or ns k 0)) → 2 ^ 64 ≤ n
    → false ≡ list_any (λ m. m == n) ns
none_past [] n h past = refl
none_past (m ∷ ns) n h past =
    let here : m < 2 ^ 64 = Fits-lt-pow {w = w64} (h 0) in
    let later = none_past ns n (λ k. h (suc k)) past in
    grind (arith, nat_tests)
