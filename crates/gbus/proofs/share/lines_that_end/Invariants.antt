-- What was left out holds no line that ends.
use Rattle.std.proofs.Common.{◌≡◌, length}
use Rattle.gb_formats.specs.Lines.{ended_lines}
use Rattle.gbus.proofs.share.lines_that_end.Given as goal

abbrev pub invariant-loop-last : goal.invariant-loop-last
invariant-loop-last l = record {
  same : ended_lines l.rest ≡ ended_lines l.text;
}

abbrev pub decreases-loop-last : goal.decreases-loop-last
decreases-loop-last l = length l.rest
