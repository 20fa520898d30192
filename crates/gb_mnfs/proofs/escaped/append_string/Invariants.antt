-- The text so far and that of the bytes that are left are the whole.
use Rattle.std.proofs.Common.{◌≡◌, ◌++◌}
use Rattle.std.specs.String.{string_bytes}
use Rattle.gb_formats.specs.SourceTexts.{string_value}
use Rattle.gb_mnfs.proofs.Escapes.{value_from}
use Rattle.gb_mnfs.proofs.escaped.append_string.Given as goal

abbrev pub invariant-loop-i : goal.invariant-loop-i
invariant-loop-i l =
    string_bytes l.line ++ value_from l.i l.bytes ≡ string_bytes l.fn.line ++ string_value l.bytes
