use Rattle.std.proofs.Common.{◌≡◌, ◌∙◌, sym, true, arith}
use Rattle.std.proofs.lemmas.Str.{IsUtf8-from_ascii}
use Rattle.gb_base.specs.Tag.{is_tag}
use Rattle.gb_base.proofs.Names.{is_tag-ascii}
use Rattle.gb_base.proofs.tag.Tag.from_bytes.Goals as goal

pub unwrap-text-requires : goal.unwrap-text-requires
unwrap-text-requires c =
    let is : is_tag c.args.bytes.now ≡ true = sym c.is_tag.ensures ∙ c.if-not-is_tag.false in
    let ascii = is_tag-ascii c.args.bytes.now is in
    grind (arith, IsUtf8-from_ascii _ ascii, c.from_utf8.ensures.cases)
