-- How many places a pass has that has each place of a history.
use Rattle.std.proofs.Common.{◌≡◌, ℕ, zero, suc, ◌+◌, ◌<◌, ◌≤◌, Bool, true, false, List, [], ◌∷◌}
use Rattle.std.proofs.Common.{length, refl, arith, ⊎_elim}
use Rattle.std.proofs.lemmas.Bool.{cases_lt}
use Rattle.std.proofs.lemmas.Bool.Decides.{nat_tests}
use Rattle.std.specs.Prelude.{◌==◌, if◌then◌else◌}
use Rattle.gb_desk.specs.Rules.{once_below}
use Rattle.gb_desk.specs.Slots.{hit, times}
use Rattle.gb_share.proofs.Places.{once_low}

-- how often the first numbers, so many, stand in a list
abbrev times_below : ℕ → List ℕ → ℕ
times_below zero ms = 0
times_below (suc k) ms = times k ms + times_below k ms

-- how often one number is among them
abbrev hits_below : ℕ → ℕ → ℕ
hits_below zero m = 0
hits_below (suc k) m = hit k m + hits_below k m

hit_few : (n m : ℕ) → hit n m ≤ 1
hit_few n m = go (m == n)
  where
    go : (b : Bool) → (if b then 1 else 0) ≤ 1
    go true = omega arith
    go false = omega arith

hits_high : (k m : ℕ) → k ≤ m → hits_below k m ≡ 0
hits_high zero m high = refl
hits_high (suc k) m high =
    let none : hit k m ≡ 0 = grind (arith, nat_tests) in
    let later = hits_high k m (omega arith) in omega arith

hits_few : (k m : ℕ) → hits_below k m ≤ 1
hits_few zero m = omega arith
hits_few (suc k) m =
    ⊎_elim
    (λ (below : m < k). (let none : hit k m ≡ 0 = grind (arith, nat_tests) in
    let later = hits_few k m in omega arith))
    (λ (high : k ≤ m). (let none = hits_high k m high in
    let one = hit_few k m in omega arith))
    (cases_lt m k)

below_none : (k : ℕ) → times_below k [] ≡ 0
below_none zero = refl
below_none (suc k) = let later = below_none k in omega arith

below_more : (k m : ℕ) (ms : List ℕ)
    → times_below k (m ∷ ms) ≡ hits_below k m + times_below k ms
below_more zero m ms = refl
below_more (suc k) m ms = let later = below_more k m ms in omega arith

below_few : (k : ℕ) (ms : List ℕ) → times_below k ms ≤ length ms
below_few k [] = let none = below_none k in omega arith
below_few k (m ∷ ms) =
    let more = below_more k m ms in
    let hits = hits_few k m in
    let later = below_few k ms in omega arith

below_once : (j k : ℕ) (ms : List ℕ) → ((n : ℕ) → times n ms ≡ once_below n k) → j ≤ k
    → j ≤ times_below j ms
below_once zero k ms each le = omega arith
below_once (suc j) k ms each le =
    let later = below_once j k ms each (omega arith) in
    let is = each j in
    let once = once_low j k (omega arith) in omega arith

pub places_few : (k : ℕ) (ms : List ℕ) → ((n : ℕ) → times n ms ≡ once_below n k)
    → k ≤ length ms
places_few k ms each =
    let low = below_once k k ms each (omega arith) in
    let high = below_few k ms in omega arith
