-- The entries so far and those of the places that weren't looked at are all.
use Rattle.std.proofs.Common.{◌≡◌, ◌+◌, ◌++◌, drop}
use Rattle.gb_table.specs.Table.{entries_from}
use Rattle.gb_table.proofs.table.Table.entries.Given as goal

abbrev pub invariant-loop-place : goal.invariant-loop-place
invariant-loop-place g l =
    l.entries
    ++ entries_from (l.self-inside.first + l.place) (drop l.place l.self-inside.places.items)
    ≡ l.self
