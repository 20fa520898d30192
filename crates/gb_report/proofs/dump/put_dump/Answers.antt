use Rattle.std.proofs.Common.{◌≡◌, subst, IsAscii, sym, rules}
use Rattle.gb_formats.specs.Dump.{dump_text}
use Rattle.gb_report.proofs.DumpAscii.{IsAscii-dump_text}
use Rattle.gb_report.proofs.dump.put_dump.Goals as goal

pub append-requires : goal.append-requires
append-requires c =
    let text : c.deref.result.now ≡ dump_text c.args.m.now = search rules in
    subst IsAscii (sym text) (IsAscii-dump_text c.args.m.now)
