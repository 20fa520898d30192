use Rattle.std.proofs.Common.{ap, ◌++◌, ◌∙◌, subst, IsAscii, sym}
use Rattle.gb_formats.specs.Texts.{entry_text}
use Rattle.gb_formats.proofs.Ascii.{IsAscii-entry_text}
use Rattle.gb_report.proofs.report.put.Goals as goal

pub append-requires : goal.append-requires
append-requires c =
    let text = c.deref.ensures ∙ c.in_ok-append_one.ensures.text
    ∙ ap (λ l. l ++ entry_text c.args.line c.args.hex c.args.entry.now) c.in_ok-text.ensures in
    subst IsAscii (sym text) (IsAscii-entry_text c.args.line c.args.hex c.args.entry.now
    c.in_ok-append_one.ensures.ascii)
