-- Only spaces have been passed.
use Rattle.std.proofs.Common.{◌≡◌, drop}
use Rattle.gb_formats.specs.SourceValues.{without_front}
use Rattle.gb_mnfs.proofs.trimmed.without_front.Given as goal

abbrev pub invariant-loop-i : goal.invariant-loop-i
invariant-loop-i l = without_front (drop l.i l.line) ≡ without_front l.line
