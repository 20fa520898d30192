-- The texts of a front of the bytes were appended.
use Rattle.std.proofs.Common.{◌≡◌, ◌++◌, take}
use Rattle.std.specs.String.{string_bytes}
use Rattle.gb_formats.specs.Dump.{string_text}
use Rattle.gb_report.proofs.dump.append_quoted.Given as goal

abbrev pub invariant-loop-byte : goal.invariant-loop-byte
invariant-loop-byte l =
    string_bytes l.line ≡ string_bytes l.fn.line ++ string_text (take l.byte-index l.bytes)
