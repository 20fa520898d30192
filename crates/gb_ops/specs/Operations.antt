-- The requests of one side of a connection whose identifiers are in use.
use Rattle.std.specs.Prelude.{ℕ, Bool, Option, List, is_some}
use Rattle.std.specs.BTreeMap.{is_at}
use Rattle.std.specs.Map.{lookup}
use Rattle.std.specs.Ordering.{nat_cmp}
use Rattle.gb_machine.specs.Labels.{free_label, greatest_label, label_after}
use Rattle.gb_ops.specs.declared.entries.Holder.{Holder}
use Rattle.gb_ops.specs.declared.entries.Pending.{Pending}
use Rattle.gb_table.specs.Table.{item_at}

-- What each identifier is in use for, the open requests in order of number, and the last identifier
-- that was drawn, 0 before the first.
pub record Operations : Type 0 where
  pub holders : List (ℕ × Holder)
  pub pending : List (ℕ × Pending)
  pub last : ℕ

-- what an identifier is in use for, None where it isn't in use
abbrev pub holder_of : Operations → ℕ → Option Holder
holder_of x label = item_at x.holders label

-- an open request by its number, None where it isn't open
abbrev pub pending_at : Operations → ℕ → Option Pending
pending_at x n = lookup (is_at (nat_cmp n)) x.pending

-- An identifier is in use: its request is open, or it was given up and its answer hasn't come.
abbrev pub is_held : Operations → ℕ → Bool
is_held x label = is_some (holder_of x label)

-- The identifier that the next request gets: the first in cyclic order behind the last one drawn
-- that isn't in use, None where all are.
abbrev pub next_label : Operations → Option ℕ
next_label x = free_label (is_held x) greatest_label (label_after x.last)
