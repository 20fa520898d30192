-- The line of an interface is ASCII.
use Rattle.std.proofs.Common.{◌≡◌, subst, IsAscii, sym, rules}
use Rattle.gb_formats.specs.ShowTexts.{interface_line}
use Rattle.gb_formats.proofs.Ascii.{IsAscii-interface_line}
use Rattle.gb_report.proofs.show.interface_line.Goals as goal

pub text_of-requires : goal.text_of-requires
text_of-requires c =
    let text : c.deref.result.now
    ≡ interface_line c.args.intf c.args.stage c.args.device
    = search rules in
    subst IsAscii (sym text) (IsAscii-interface_line c.args.intf c.args.stage c.args.device)
