-- Only spaces have been passed.
use Rattle.std.proofs.Common.{◌≡◌, ◌≤◌, length, take}
use Rattle.gb_formats.specs.SourceValues.{without_back}
use Rattle.gb_mnfs.proofs.trimmed.without_back.Given as goal

abbrev pub invariant-loop-end : goal.invariant-loop-end
invariant-loop-end l = record {
  within : l.end ≤ length l.line;
  read : without_back (take l.end l.line) ≡ without_back l.line;
}

abbrev pub decreases-loop-end : goal.decreases-loop-end
decreases-loop-end l = l.end
