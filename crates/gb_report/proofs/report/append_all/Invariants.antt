-- The text so far and the texts of the entries that are left are the whole.
use Rattle.std.proofs.Common.{◌≡◌, ◌++◌, drop}
use Rattle.std.specs.String.{string_bytes}
use Rattle.gb_formats.specs.Texts.{entries_text}
use Rattle.gb_report.proofs.report.append_all.Given as goal

abbrev pub invariant-loop-entry : goal.invariant-loop-entry
invariant-loop-entry l =
    string_bytes l.out ++ entries_text l.line l.hex (drop l.entry-index l.entries)
    ≡ string_bytes l.fn.out ++ entries_text l.line l.hex l.entries
