-- The time is ASCII.
use Rattle.std.proofs.Common.{◌≡◌, subst, IsAscii, sym, rules}
use Rattle.gb_formats.specs.ShowTexts.{now_line}
use Rattle.gb_formats.proofs.Ascii.{IsAscii-now_line}
use Rattle.gb_report.proofs.show.now_line.Goals as goal

pub text_of-requires : goal.text_of-requires
text_of-requires c =
    let text : c.deref.result.now ≡ now_line c.args.now = search rules in
    subst IsAscii (sym text) (IsAscii-now_line c.args.now)
