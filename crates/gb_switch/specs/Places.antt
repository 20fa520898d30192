-- The order in which queues are settled, and the numbers by which it is kept.
use Rattle.std.specs.Prelude.{◌≡◌, ◌<◌, ℕ, ◌+◌, ◌-◌, ◌*◌, ◌/◌, ◌%◌, ◌==◌, nat_lt, if◌then◌else◌}
use Rattle.std.proofs.Common.{ap, refl, sym, ◌∙◌}
use Rattle.std.specs.Prelude.{List, [], ◌∷◌, slice_index, true}
use Rattle.std.specs.Cmp.{Equal-is, IsTotalOrder}
use Rattle.std.specs.Cmp.Lexicographic.{on_texts, slice_cmp}
use Rattle.std.specs.FinMap.{nat_cmp-IsAntisymmetric, slice_cmp-IsAntisymmetric}
use Rattle.std.specs.Ordering.{eq_by_cmp, nat_cmp}
use Rattle.std.specs.declared.cmp.Ordering.{Ordering}
use Rattle.gb_base.specs.declared.end.End.{End}
use Rattle.gb_base.specs.declared.end.End.TheVariants as end

-- an end by its kind, and then its numbers
abbrev pub key_of : End → List ℕ
key_of end.Svc = 0 ∷ []
key_of (end.Ap a) = 1 ∷ a ∷ []
key_of (end.Module i c) = 2 ∷ i ∷ c ∷ []

-- The order of ends: the supervisory controller, then the CPorts of the application processor, then
-- those of modules.
abbrev pub end_cmp : End → End → Ordering
end_cmp a b = slice_cmp nat_cmp (key_of a) (key_of b)

-- that is a total order
pub end_total : IsTotalOrder end_cmp
end_total = on_texts key_of

-- the number of an end
abbrev pub code_of : End → ℕ
code_of end.Svc = 0
code_of (end.Ap a) = 1 + a
code_of (end.Module i c) = 65537 + i * 65536 + c

-- the end that has a number
abbrev pub end_of : ℕ → End
end_of n =
    if n == 0 then end.Svc
    else if nat_lt n 65537 then end.Ap (n - 1)
    else end.Module ((n - 65537) / 65536) ((n - 65537) % 65536)

-- it is the number of that end, whose interface is below 256
pub record IsCode (n : ℕ) : Type 0 where
  pub own : code_of (end_of n) ≡ n
  pub below : n < 65537 + 256 * 65536

-- ends that compare equal have one key
pub same_key : (a b : End) → eq_by_cmp end_cmp a b ≡ true → key_of a ≡ key_of b
same_key a b e =
    slice_cmp-IsAntisymmetric nat_cmp-IsAntisymmetric (key_of a) (key_of b)
    ((Equal-is (end_cmp a b)).0 e)

-- the number of the end that has a key
abbrev code_by : List ℕ → ℕ
code_by key =
    if slice_index key 0 == 0 then 0
    else if slice_index key 0 == 1 then 1 + slice_index key 1
    else 65537 + slice_index key 1 * 65536 + slice_index key 2

by_key : (at : End) → code_of at ≡ code_by (key_of at)
by_key end.Svc = refl
by_key (end.Ap a) = refl
by_key (end.Module i c) = refl

-- and so one number
pub same_code : (a b : End) → eq_by_cmp end_cmp a b ≡ true → code_of a ≡ code_of b
same_code a b e = by_key a ∙ ap code_by (same_key a b e) ∙ sym (by_key b)
