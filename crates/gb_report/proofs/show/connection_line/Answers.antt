-- The line of a connection is ASCII.
use Rattle.std.proofs.Common.{◌≡◌, subst, IsAscii, sym, rules}
use Rattle.gb_formats.specs.ShowTexts.{connection_line}
use Rattle.gb_formats.proofs.Ascii.{IsAscii-connection_line}
use Rattle.gb_report.proofs.show.connection_line.Goals as goal

pub text_of-requires : goal.text_of-requires
text_of-requires c =
    let text : c.deref.result.now
    ≡ connection_line c.args.number c.args.ap c.args.peer c.args.protocol c.args.state c.args.clean
    = search rules in
    subst IsAscii (sym text)
    (IsAscii-connection_line c.args.number c.args.ap c.args.peer c.args.protocol c.args.state
    c.args.clean)
