-- The identifier that the next request of a side gets.
use Rattle.std.specs.Prelude.{ℕ, zero, suc, ◌+◌, nat_lt, Bool, if◌then◌else◌, Option, Some, None}
use Rattle.std.specs.Prelude.{option_and_then}
use Rattle.gb_base.specs.declared.end.Side.{Side}
use Rattle.gb_base.specs.declared.end.Side.TheVariants as side
use Rattle.gb_machine.specs.Bus.{Bus, Connection, connection_of}
use Rattle.gb_machine.specs.Requests.{is_used}

-- the greatest identifier
abbrev pub greatest_label : ℕ
greatest_label = 65535

-- the last identifier that was drawn on a side
abbrev pub last_label : Side → Connection → ℕ
last_label side.Ap c = c.ap_last
last_label side.Far c = c.far_last

-- the connection with an identifier as the last that was drawn on a side
abbrev pub with_last_label : Side → ℕ → Connection → Connection
with_last_label side.Ap label c = record c { ap_last = label }
with_last_label side.Far label c = record c { far_last = label }

-- the identifier that follows another, and 1 behind the greatest
abbrev pub label_after : ℕ → ℕ
label_after label = if nat_lt label greatest_label then label + 1 else 1

-- the first of so many identifiers in their cycle that isn't used
unfoldable pub free_label : (ℕ → Bool) → ℕ → ℕ → Option ℕ
free_label used zero label = None
free_label used (suc tries) label =
    let later = free_label used tries (label_after label) in
    if used label then later else Some label

-- the first identifier behind the last one drawn on a side of a connection, in cyclic order, that
-- is neither open nor given up there
abbrev pub cyclic_label : ℕ → Side → Bus → Connection → Option ℕ
cyclic_label k at b c = free_label (is_used k at b) greatest_label (label_after (last_label at c))

-- The identifier of the next request that a side of a connection makes, None where all are in use.
abbrev pub next_label : ℕ → Side → Bus → Option ℕ
next_label k at b = option_and_then (cyclic_label k at b) (connection_of k b)
