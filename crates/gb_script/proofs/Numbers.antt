-- How a number is read, digit by digit.
use Rattle.std.proofs.Common.{◌≡◌, ℕ, suc, ◌+◌, ◌-◌, ◌*◌, ◌<◌, ◌≤◌, List, [], ◌∷◌, length, get_or}
use Rattle.std.proofs.Common.{drop, arith}
use Rattle.std.specs.Prelude.{None}
use Rattle.std.proofs.Math.Seq.{drop-cons}
use Rattle.std.proofs.lemmas.Bool.Decides.{nat_tests}
use Rattle.gb_formats.specs.WordValues.{number_after, number_of, number_word}

-- more digits make no smaller number
pub grows : (front : ℕ) (bs : List ℕ) → front ≤ number_after front bs
grows front [] = omega arith
grows front (b ∷ bs) =
    let more = grows (front * 10 + (b - 48)) bs in omega arith

-- a number whose front is too great is too great
pub too_great : (least greatest front i : ℕ) (w : List ℕ) → i < length w
    → number_after front (drop i w) ≡ number_of w → greatest < front * 10 + (get_or w i 0 - 48)
    → number_word least greatest w ≡ None
too_great least greatest front i w h read big =
    let next = rw (drop-cons w i 0) at read in
    let more = grows (front * 10 + (get_or w i 0 - 48)) (drop (suc i) w) in
    let above : greatest < number_of w = omega arith in
    grind (arith, nat_tests)
