-- None of those that were looked at is there.
use Rattle.std.proofs.Common.{◌≡◌, ◌≤◌, length, take}
use Rattle.gb_host.specs.Places.{there_in}
use Rattle.gb_host.proofs.places.end_there.Given as goal

abbrev pub invariant-loop-end : goal.invariant-loop-end
invariant-loop-end l = record {
  here : l.end ≤ length l.places;
  same : there_in (take l.end l.places) ≡ there_in l.places;
}

abbrev pub decreases-loop-end : goal.decreases-loop-end
decreases-loop-end l = l.end
