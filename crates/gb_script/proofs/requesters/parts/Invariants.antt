-- The lines so far, and those that the rest of the text has, are all.
use Rattle.std.proofs.Common.{◌≡◌, ◌≤◌, ◌+◌, length}
use Rattle.gb_formats.specs.Lines.{lines}
use Rattle.gb_formats.specs.Parts.{parts, parts_from}
use Rattle.gb_script.specs.PartLines.{in_front}
use Rattle.gb_script.proofs.requesters.parts.Given as goal

abbrev pub invariant-loop-line : goal.invariant-loop-line
invariant-loop-line l = record {
  read : in_front l.read.asked (parts_from l.number l.read.who (lines l.rest)) ≡ parts l.text;
  few : l.number + length l.rest ≤ length l.text + 1;
}

abbrev pub decreases-loop-line : goal.decreases-loop-line
decreases-loop-line l = length l.rest
