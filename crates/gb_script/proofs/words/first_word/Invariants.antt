-- Only spaces stand before the first word, and its front has been read.
use Rattle.std.proofs.Common.{◌≡◌, ◌≤◌, ◌-◌, drop, length}
use Rattle.gb_formats.specs.Words.{words}
use Rattle.gb_formats.proofs.Words.{HasRead}
use Rattle.gb_script.proofs.words.first_word.Given as goal

abbrev pub invariant-loop-start : goal.invariant-loop-start
invariant-loop-start l = record {
  within : l.start ≤ length l.line;
  passed : words (drop l.start l.line) ≡ words l.line;
}

abbrev pub invariant-loop-end : goal.invariant-loop-end
invariant-loop-end l = record {
  order : l.start ≤ l.end;
  within : l.end ≤ length l.line;
  read : HasRead l.line l.start l.end;
}

abbrev pub decreases-loop-start : goal.decreases-loop-start
decreases-loop-start l = length l.line - l.start

abbrev pub decreases-loop-end : goal.decreases-loop-end
decreases-loop-end l = length l.line - l.end
