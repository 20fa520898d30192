use Rattle.std.proofs.Common.{◌≡◌, subst, IsAscii, sym, rules}
use Rattle.std.specs.String.{string_bytes}
use Rattle.gb_formats.specs.Dump.{refused_text}
use Rattle.gb_formats.specs.Texts.{ended}
use Rattle.gb_manifest.specs.Values.{refused_of}
use Rattle.gb_report.proofs.DumpAscii.{IsAscii-refused_text}
use Rattle.gb_report.proofs.checked.put_refused.Goals as goal

pub put_line-requires : goal.put_line-requires
put_line-requires c =
    let text : ended (string_bytes c.in_ok-line.line) ≡ refused_text (refused_of c.args.why.now)
    = search rules in
    subst IsAscii (sym text) (IsAscii-refused_text (refused_of c.args.why.now))
