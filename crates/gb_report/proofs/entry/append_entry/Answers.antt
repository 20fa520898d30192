use Rattle.std.proofs.Common.{arith}
use Rattle.std.proofs.lemmas.Str.{IsUtf8-from_ascii}
use Rattle.gb_report.proofs.entry.append_entry.Goals as goal

pub unwrap-text-requires : goal.unwrap-text-requires
unwrap-text-requires c =
    grind (arith, IsUtf8-from_ascii _ c.items.ensures.ascii, c.from_utf8.ensures.cases)
