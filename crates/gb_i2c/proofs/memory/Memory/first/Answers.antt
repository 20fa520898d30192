use Rattle.std.proofs.Common.{arith, refl, ap, sym, ◌∙◌, ◌∷◌, ◌++◌, [], ℕ, List, ◌≡◌, ◌+◌}
use Rattle.std.proofs.Common.{length-set, add-one}
use Rattle.std.proofs.lemmas.List.{take_more_set}
use Rattle.gb_formats.specs.I2cDevice.{counted_from}
use Rattle.gb_i2c.proofs.Places.{counted_more, counted_none}
use Rattle.gb_i2c.proofs.memory.Memory.first.Goals as goal

pub loop-place-init : goal.loop-place-init
loop-place-init c = record { size = refl; front = counted_none [] }

pub loop-place-preserved : goal.loop-place-preserved
loop-place-preserved c =
    let place : ℕ = c.loop-place.place in
    let size = c.loop-place.invariant.size in
    let last : place ≡ 0 + place = omega arith in
    record {
      size = length-set c.loop-place.bytes place place ∙ size;
      front = take_more_set c.loop-place.bytes place place (omega (arith, size))
          ∙ ap (λ (xs : List ℕ). xs ++ place ∷ []) c.loop-place.invariant.front
          ∙ ap (λ (n : ℕ). counted_from 0 place ++ n ∷ []) last
          ∙ sym (counted_more 0 place)
          ∙ ap (counted_from 0) (sym (add-one place));
    }
