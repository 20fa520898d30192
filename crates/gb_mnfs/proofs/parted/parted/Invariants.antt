-- No byte before this one parts the line.
use Rattle.std.proofs.Common.{◌≡◌, drop, take}
use Rattle.gb_formats.specs.SourceValues.{parted, parted_after}
use Rattle.gb_mnfs.proofs.parted.parted.Given as goal

abbrev pub invariant-loop-i : goal.invariant-loop-i
invariant-loop-i l = parted_after l.by (take l.i l.line) (drop l.i l.line) ≡ parted l.by l.line
