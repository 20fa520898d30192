-- The line of a queue is ASCII.
use Rattle.std.proofs.Common.{◌≡◌, subst, IsAscii, sym, rules}
use Rattle.gb_formats.specs.ShowTexts.{queue_line}
use Rattle.gb_formats.proofs.Ascii.{IsAscii-queue_line}
use Rattle.gb_report.proofs.show.queue_line.Goals as goal

pub text_of-requires : goal.text_of-requires
text_of-requires c =
    let text : c.deref.result.now ≡ queue_line c.args.at c.args.count = search rules in
    subst IsAscii (sym text) (IsAscii-queue_line c.args.at c.args.count)
