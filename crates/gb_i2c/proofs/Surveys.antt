-- What is seen of ops, one after the other.
use Rattle.std.proofs.Common.{◌≡◌, ◌<◌, ◌≤◌, ◌+◌, ◌-◌, ◌*◌, ◌||◌, ℕ, suc, Bool, true, false, List}
use Rattle.std.proofs.Common.{◌∷◌, length, drop, sum_by, refl, arith, ap, ap₂, sym, ◌∙◌}
use Rattle.std.proofs.Common.{length-drop}
use Rattle.std.proofs.lemmas.List.Sums.{sum_by-cons}
use Rattle.std.specs.List.{list_any}
use Rattle.gb_formats.specs.I2cDevice.{has_strange_flags, is_elsewhere}
use Rattle.gb_formats.specs.I2cRecords.{TransferOp, op_at, op_read_size, op_size, ops_at}

-- one op is at the front of those that are left
pub ops_next : (count counter : ℕ) (bytes : List ℕ) → counter < count
    → ops_at (count - counter) bytes
    ≡ op_at bytes ∷ ops_at (count - (counter + 1)) (drop op_size bytes)
ops_next count counter bytes h =
    let e : count - counter ≡ suc (count - (counter + 1)) = omega arith in
    ap (λ (n : ℕ). ops_at n bytes) e

-- the bytes of those that are left then
pub ops_left : (count counter : ℕ) (bytes later : List ℕ) → counter < count
    → later ≡ drop op_size bytes → length bytes ≡ op_size * (count - counter)
    → length later ≡ op_size * (count - (counter + 1))
ops_left count counter bytes later h next long =
    let e : count - counter ≡ suc (count - (counter + 1)) = omega arith in
    let was : length bytes ≡ op_size * suc (count - (counter + 1)) =
    long ∙ ap (λ (n : ℕ). op_size * n) e in
    let dropped = length-drop op_size bytes in
    ap (λ (xs : List ℕ). length xs) next ∙ omega (arith, dropped, was)

-- What was seen of the first ops, and what the others show.
pub record Surveyed (count counter : ℕ) (strange elsewhere : Bool) (read : ℕ) (ops rest : List ℕ)
    : Type 0 where
  pub long : length rest ≡ op_size * (count - counter)
  pub strange_ops : (strange || list_any has_strange_flags (ops_at (count - counter) rest))
      ≡ list_any has_strange_flags (ops_at count ops)
  pub elsewhere_ops : (elsewhere || list_any is_elsewhere (ops_at (count - counter) rest))
      ≡ list_any is_elsewhere (ops_at count ops)
  pub sizes : read + sum_by op_read_size (ops_at (count - counter) rest)
      ≡ sum_by op_read_size (ops_at count ops)
  pub bound : read ≤ 65535 * counter

or_assoc : (a b c : Bool) → ((a || b) || c) ≡ (a || (b || c))
or_assoc true b c = refl
or_assoc false b c = refl

-- one more op is seen
pub surveyed_more : (count counter read more : ℕ) (strange elsewhere s e : Bool)
    (ops rest later : List ℕ)
    → counter < count → later ≡ drop op_size rest → s ≡ has_strange_flags (op_at rest)
    → e ≡ is_elsewhere (op_at rest) → more ≡ op_read_size (op_at rest) → more ≤ 65535
    → Surveyed count counter strange elsewhere read ops rest
    → Surveyed count (counter + 1) (strange || s) (elsewhere || e) (read + more) ops later
surveyed_more count counter read more strange elsewhere s e ops rest later =
    λ h next is_s is_e is_more few seen.
    let n : ℕ = count - (counter + 1) in
    let split = ops_next count counter rest h in
    let total : sum_by op_read_size (ops_at (count - counter) rest)
    ≡ op_read_size (op_at rest) + sum_by op_read_size (ops_at n (drop op_size rest)) =
    ap (sum_by op_read_size) split
    ∙ sum_by-cons op_read_size (op_at rest) (ops_at n (drop op_size rest)) in
    let bound = seen.bound in
    let sizes = seen.sizes in
    record {
      long = ops_left count counter rest later h next seen.long;
      strange_ops =
          ap₂ (λ (x : Bool) (xs : List ℕ).
          (strange || x) || list_any has_strange_flags (ops_at n xs)) is_s next
          ∙ or_assoc strange (has_strange_flags (op_at rest))
          (list_any has_strange_flags (ops_at n (drop op_size rest)))
          ∙ ap (λ (xs : List TransferOp). strange || list_any has_strange_flags xs) (sym split)
          ∙ seen.strange_ops;
      elsewhere_ops =
          ap₂ (λ (x : Bool) (xs : List ℕ). (elsewhere || x) || list_any is_elsewhere (ops_at n xs))
          is_e next
          ∙ or_assoc elsewhere (is_elsewhere (op_at rest))
          (list_any is_elsewhere (ops_at n (drop op_size rest)))
          ∙ ap (λ (xs : List TransferOp). elsewhere || list_any is_elsewhere xs) (sym split)
          ∙ seen.elsewhere_ops;
      sizes =
          ap (λ (xs : List ℕ). read + more + sum_by op_read_size (ops_at n xs)) next
          ∙ omega (arith, total, sizes, is_more);
      bound = omega (arith, bound, few);
    }
