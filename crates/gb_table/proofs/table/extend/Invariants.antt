-- Nothing is added but places with nothing.
use Rattle.std.proofs.Common.{◌≡◌, ◌≤◌, ◌<◌, ◌+◌, ◌-◌, ℕ, length}
use Rattle.gb_table.specs.Table.{entries_from}
use Rattle.gb_table.proofs.table.extend.Given as goal

abbrev pub invariant-loop-places : goal.invariant-loop-places
invariant-loop-places g l = record {
  same : (n : ℕ) → entries_from n l.places.items ≡ entries_from n l.initial.places.items;
  end : (last : ℕ) → l.place < last → length l.initial.places.items ≤ last
      → length l.places.items ≤ last;
}

abbrev pub decreases-loop-places : goal.decreases-loop-places
decreases-loop-places g l = l.place + 1 - length l.places.items
