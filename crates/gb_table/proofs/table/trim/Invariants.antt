-- Nothing is taken but places with nothing, in front.
use Rattle.std.proofs.Common.{◌≡◌, ◌≤◌, ◌+◌, length}
use Rattle.gb_table.specs.Table.{entries_from}
use Rattle.gb_table.proofs.table.trim.Given as goal

abbrev pub invariant-loop-places : goal.invariant-loop-places
invariant-loop-places g l = record {
  same : entries_from l.first l.places.items
      ≡ entries_from l.initial.first l.initial.places.items;
  end : l.first + length l.places.items ≤ 18446744073709551616;
}

abbrev pub decreases-loop-places : goal.decreases-loop-places
decreases-loop-places g l = length l.places.items
