-- The bytes of a name are ASCII, so they are UTF-8.
use Rattle.std.proofs.Common.{IsAscii, arith, subst, sym}
use Rattle.std.proofs.lemmas.Str.{IsUtf8-from_ascii}
use Rattle.gb_base.proofs.Names.{is_name-ascii}
use Rattle.gb_base.proofs.name.Word.text.Goals as goal

pub unwrap-requires : goal.unwrap-requires
unwrap-requires c =
    let ascii = is_name-ascii c.args.self.now c.bytes.ensures.name in
    let read = subst IsAscii (sym c.bytes.ensures.bytes) ascii in
    grind (arith, IsUtf8-from_ascii c.bytes.result.now read, c.from_utf8.ensures.cases)

pub returns-clause-ascii : goal.returns-clause-ascii
returns-clause-ascii c = is_name-ascii c.args.self.now c.bytes.ensures.name
