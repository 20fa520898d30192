use Rattle.std.proofs.Common.{◌∙◌, sym, arith, rules, tests}
use Rattle.std.proofs.lemmas.Bool.Decides.{nat_tests}
use Rattle.std.proofs.lemmas.Iterator.{YieldsList-from_slice}
use Rattle.std.proofs.lemmas.Iterator.Search.{all_from_yields_List}
use Rattle.gb_base.specs.Name.{is_name_byte}
use Rattle.gb_base.proofs.Names.{is_tag-fits}
use Rattle.gb_base.proofs.tag.is_tag.Goals as goal

pub returns-then-bytes-le-LONGEST : goal.returns-then-bytes-le-LONGEST
returns-then-bytes-le-LONGEST c =
    let w = c.args.bytes.now in
    all_from_yields_List is_name_byte _ _ _ c.all.ensures.ran (YieldsList-from_slice w cc)
    (λ x b q k. search (rules, tests))
    ∙ sym (is_tag-fits w (grind (arith, nat_tests)) (omega arith))
