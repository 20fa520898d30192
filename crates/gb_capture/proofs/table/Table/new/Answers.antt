-- No slot has a request.
use Rattle.std.proofs.Common.{◌≡◌, ◌∙◌, ap, get_or, refl, ℕ, zero, suc, None, Option, replicate}
use Rattle.std.proofs.Common.{List, true, false}
use Rattle.gb_capture.specs.declared.table.Asked.{Asked}
use Rattle.gb_capture.proofs.table.Table.new.Goals as goal

nothing : (n id : ℕ) → get_or (replicate {A = Option Asked} n None) id None ≡ None
nothing zero id = refl
nothing (suc n) zero = refl
nothing (suc n) (suc id) = nothing n id

empty : (slots : List (Option Asked)) (id : ℕ) → slots ≡ replicate 65536 None
    → get_or slots id None ≡ None
empty slots id e = ap (λ s. get_or s id None) e ∙ nothing 65536 id

pub returns : goal.returns
returns c true id = empty _ id c.in_ok-slots.ensures
returns c false id = empty _ id c.in_ok-slots-2.ensures
