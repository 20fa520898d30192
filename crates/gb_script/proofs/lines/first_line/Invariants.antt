-- What has been read is the front of the first line.
use Rattle.std.proofs.Common.{◌≡◌, take, drop}
use Rattle.gb_formats.specs.Lines.{lines, lines_after}
use Rattle.gb_script.proofs.lines.first_line.Given as goal

abbrev pub invariant-loop-i : goal.invariant-loop-i
invariant-loop-i l = lines_after (take l.i l.text) (drop l.i l.text) ≡ lines l.text
