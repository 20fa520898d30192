-- When no identifier is left.
use Rattle.std.specs.Prelude.{◌≡◌, ◌≤◌, ℕ, true, Some, None}
use Rattle.gb_base.specs.declared.end.Side.{Side}
use Rattle.gb_machine.specs.Bus.{Bus, Connection, connection_of}
use Rattle.gb_machine.specs.Labels.{greatest_label, next_label}
use Rattle.gb_machine.specs.Requests.{is_used}

-- Where a side of a live connection has no identifier left, each from 1 to the greatest is in use
-- there: its request is open, or was given up and its answer hasn't come.
abbrev pub NoneLeftMeansAllInUse : Type 0
NoneLeftMeansAllInUse =
    (b : Bus) (k : ℕ) (at : Side) (c : Connection) → connection_of k b ≡ Some c
    → next_label k at b ≡ None → (label : ℕ) → 1 ≤ label → label ≤ greatest_label
    → is_used k at b label ≡ true
