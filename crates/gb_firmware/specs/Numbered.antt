-- The loans by their numbers.
use Rattle.std.specs.Prelude.{ℕ, zero, suc, ◌==◌, ◌<◌, Bool, List, [], ◌++◌, map}
use Rattle.std.specs.BTreeMap.{BTreeMap, IsOrdered}
use Rattle.std.specs.List.{All, filter}
use Rattle.std.specs.Ordering.{nat_cmp, ordering_then}
use Rattle.std.specs.declared.cmp.Ordering.{Ordering}
use Rattle.gb_firmware.specs.declared.loans.Lent.{Lent}
use Rattle.gb_formats.specs.Images.{Loan}

-- a connection and an id, and what is lent there
abbrev pub Entry : Type 0
Entry = (ℕ × ℕ) × Lent

-- an entry as a loan
abbrev pub loan_of : Entry → Loan
loan_of e = record { connection = e.0.0; id = e.0.1; tag = e.1.tag }

-- it was lent after this many
abbrev pub has_number : ℕ → Entry → Bool
has_number n e = e.1.number == n

-- those with the first so many numbers, in the order of their numbers
abbrev pub in_turn : ℕ → List Entry → List Entry
in_turn zero es = []
in_turn (suc n) es = in_turn n es ++ filter (has_number n) es

-- the loans in the order in which they were lent
abbrev pub loans_of : ℕ → List Entry → List Loan
loans_of n es = map loan_of (in_turn n es)

-- by connections, and ids of one connection by themselves
abbrev pub key_cmp : ℕ × ℕ → ℕ × ℕ → Ordering
key_cmp a b = ordering_then (nat_cmp a.0 b.0) (nat_cmp a.1 b.1)

-- each key is there once, and each number is below this one
pub record AreNumbered (count : ℕ) (lent : BTreeMap (ℕ × ℕ) Lent) : Type 0 where
  pub ordered : IsOrdered key_cmp lent
  pub below : All (λ e. e.1.number < count) lent.entries
