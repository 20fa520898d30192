-- The requester's lines so far and those among the lines that are left are all of them.
use Rattle.std.proofs.Common.{◌≡◌, ◌++◌, drop, length}
use Rattle.gb_share.specs.Picks.{AreBelow, lines_by, picked}
use Rattle.gb_share.proofs.lines.Lines.of.Given as goal

abbrev pub invariant-loop-place : goal.invariant-loop-place
invariant-loop-place l = record {
  all : picked l.lines l.places.items ++ lines_by l.who (drop l.place l.lines)
      ≡ lines_by l.who l.lines;
  below : AreBelow (length l.lines) l.places.items;
}
