-- Nothing is let go but empty places.
use Rattle.std.proofs.Common.{◌≡◌, length}
use Rattle.gb_ops.specs.Places.{Rises, opened}
use Rattle.gb_ops.proofs.open_list.trim.Given as goal

abbrev pub invariant-loop-places : goal.invariant-loop-places
invariant-loop-places l = record {
  rises : Rises l.places.items;
  same : opened l.places.items ≡ opened l.initial.places.items;
}

abbrev pub decreases-loop-places : goal.decreases-loop-places
decreases-loop-places l = length l.places.items
