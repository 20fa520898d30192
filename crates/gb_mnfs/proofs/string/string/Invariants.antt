-- What has been read is the front of the string.
use Rattle.std.proofs.Common.{◌≡◌, ◌≤◌, ◌-◌, length, drop}
use Rattle.gb_formats.specs.SourceValues.{source_string, string_after}
use Rattle.gb_mnfs.proofs.string.string.Given as goal

abbrev pub invariant-loop-at : goal.invariant-loop-at
invariant-loop-at l = record {
  within : l.at ≤ length l.text;
  read : string_after l.string 0 (drop l.at l.text) ≡ source_string l.text;
}

abbrev pub decreases-loop-at : goal.decreases-loop-at
decreases-loop-at l = length l.text - l.at
