use Rattle.std.proofs.Common.{◌≡◌, ◌∙◌, ◌-◌, ◌++◌, ap, arith, refl, take, replicate, ℕ, zero, suc}
use Rattle.std.proofs.Common.{List, [], None, Option}
use Rattle.gb_capture.specs.declared.table.Asked.{Asked}
use Rattle.gb_capture.proofs.table.slots.Goals as goal

nothing : (n : ℕ) → take {A = Option Asked} n [] ≡ []
nothing zero = refl
nothing (suc n) = refl

filled : (n count : ℕ) (items : List (Option Asked)) → items ≡ [] → count ≡ 0
    → take n items ++ replicate (n - count) None ≡ replicate n None
filled n count items none zero-is =
    ap (λ s. take n s ++ replicate (n - count) None) none
    ∙ ap (λ s. s ++ replicate (n - count) None) (nothing n)
    ∙ ap (λ k. replicate k None) (omega (arith, zero-is))

pub returns : goal.returns
returns c =
    c.in_ok-resize.ensures.items
    ∙ filled 65536 _ _ c.new-slots.ensures.items c.new-slots.ensures.len
