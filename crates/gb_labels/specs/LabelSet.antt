-- A set of identifiers with the last one that was drawn.
use Rattle.std.specs.Prelude.{ℕ, Bool, Option, List}
use Rattle.gb_base.specs.Marks.{is_marked}
use Rattle.gb_machine.specs.Labels.{free_label, greatest_label, label_after}

-- The identifiers in use on one side of a connection, as bits in words of 64, and the last one that
-- was drawn, 0 before the first. A word that isn't there has no bit set.
pub record LabelSet : Type 0 where
  pub words : List ℕ
  pub last : ℕ

-- An identifier is in use.
abbrev pub is_in_use : LabelSet → ℕ → Bool
is_in_use set label = is_marked set.words label

-- The identifier that is drawn next: the first in cyclic order behind the last one drawn that isn't
-- in use, None where all are.
abbrev pub next_of : LabelSet → Option ℕ
next_of set = free_label (is_in_use set) greatest_label (label_after set.last)
