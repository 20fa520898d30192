use Rattle.std.proofs.Common.{◌≡◌, subst, IsAscii, sym, rules}
use Rattle.gb_formats.specs.SourceTexts.{manifest_spec, source_text}
use Rattle.gb_mnfs.proofs.SourceAscii.{IsAscii-source_text}
use Rattle.gb_mnfs.proofs.decompiling.decompile.Goals as goal

pub append-requires : goal.append-requires
append-requires c =
    let text : c.deref.result.now ≡ source_text (manifest_spec c.args.m.now) = search rules in
    subst IsAscii (sym text) (IsAscii-source_text (manifest_spec c.args.m.now))
