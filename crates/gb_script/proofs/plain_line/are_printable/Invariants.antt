-- What was found of the bytes before this one, and what those that are left are, say what all are.
use Rattle.std.proofs.Common.{◌≡◌, ◌&&◌, drop}
use Rattle.std.specs.List.{list_all}
use Rattle.gb_formats.specs.Script.{is_printable}
use Rattle.gb_script.proofs.plain_line.are_printable.Given as goal

abbrev pub invariant-loop-b : goal.invariant-loop-b
invariant-loop-b l =
    (l.printable && list_all is_printable (drop l.b-index l.line)) ≡ list_all is_printable l.line
