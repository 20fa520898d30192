-- The lines before this one have been read.
use Rattle.std.proofs.Common.{◌≤◌, ◌+◌, length}
use Rattle.gb_mnfs.proofs.Sources.{HasRead}
use Rattle.gb_mnfs.proofs.compiling.read.Given as goal

abbrev pub invariant-loop-line : goal.invariant-loop-line
invariant-loop-line l = record {
  read : HasRead l.text l.at l.draft l.left;
  few : l.at + length l.left ≤ length l.text + 1;
}

abbrev pub decreases-loop-line : goal.decreases-loop-line
decreases-loop-line l = length l.left
