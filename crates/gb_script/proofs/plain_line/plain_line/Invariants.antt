-- No byte before this one is bad.
use Rattle.std.proofs.Common.{◌≡◌, ◌+◌, drop}
use Rattle.gb_formats.specs.Script.{bad_place}
use Rattle.gb_script.proofs.plain_line.plain_line.Given as goal

abbrev pub invariant-loop-b : goal.invariant-loop-b
invariant-loop-b l = record {
  place : l.place ≡ l.b-index + 1;
  read : bad_place l.place (drop l.b-index l.line) ≡ bad_place 1 l.line;
}
