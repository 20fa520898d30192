-- Nothing is added but places with nothing, in front.
use Rattle.std.proofs.Common.{◌≡◌, ◌+◌, length}
use Rattle.gb_table.specs.Table.{entries_from}
use Rattle.gb_table.proofs.table.lead.Given as goal

abbrev pub invariant-loop-first : goal.invariant-loop-first
invariant-loop-first g l = record {
  same : entries_from l.first l.places.items
      ≡ entries_from l.initial.first l.initial.places.items;
  end : l.first + length l.places.items ≡ l.initial.first + length l.initial.places.items;
}

abbrev pub decreases-loop-first : goal.decreases-loop-first
decreases-loop-first g l = l.first
