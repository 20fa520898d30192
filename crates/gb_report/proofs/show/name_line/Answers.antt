-- The line of a name is ASCII.
use Rattle.std.proofs.Common.{◌≡◌, subst, IsAscii, option_copied, sym, rules}
use Rattle.gb_formats.specs.ShowTexts.{name_line}
use Rattle.gb_formats.proofs.Ascii.{IsAscii-name_line}
use Rattle.gb_report.proofs.show.name_line.Goals as goal

pub text_of-requires : goal.text_of-requires
text_of-requires c =
    let text : c.deref.result.now
    ≡ name_line c.args.name.now c.args.number (option_copied c.args.how)
    = search rules in
    subst IsAscii (sym text)
    (IsAscii-name_line c.args.name.now c.args.number (option_copied c.args.how)
    c.text-word.ensures.ascii)
