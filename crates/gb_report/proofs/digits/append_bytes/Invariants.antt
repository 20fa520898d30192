-- The digits so far and those of the bytes that are left are those of all.
use Rattle.std.proofs.Common.{◌≡◌, ◌++◌, drop}
use Rattle.std.specs.String.{string_bytes}
use Rattle.hex.specs.Hex.{encode_lower}
use Rattle.gb_report.proofs.digits.append_bytes.Given as goal

abbrev pub invariant-loop-byte : goal.invariant-loop-byte
invariant-loop-byte l =
    string_bytes l.line ++ encode_lower (drop l.byte-index l.bytes)
    ≡ string_bytes l.fn.line ++ encode_lower l.bytes
