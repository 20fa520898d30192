-- The places of the CPorts that were looked at, from the last one on, are kept.
use Rattle.std.proofs.Common.{◌≤◌, drop, length}
use Rattle.gb_module.proofs.Counting.{AreKept}
use Rattle.gb_module.proofs.ports.Ports.new.Given as goal

abbrev pub invariant-loop-left : goal.invariant-loop-left
invariant-loop-left l = record {
  counted : l.counted ≤ l.left;
  kept : (l.left ≤ length l.ports.items) × AreKept l.places l.left (drop l.left l.ports.items);
}

abbrev pub decreases-loop-left : goal.decreases-loop-left
decreases-loop-left l = l.left
