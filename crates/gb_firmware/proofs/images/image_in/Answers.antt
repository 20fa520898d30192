-- The image is the first that the definition finds.
use Rattle.std.proofs.Common.{find, rules}
use Rattle.std.proofs.lemmas.Iterator.{YieldsList-from_slice}
use Rattle.std.proofs.lemmas.Iterator.Search.{find_from_yields_List}
use Rattle.gb_formats.specs.Images.{has_tag}
use Rattle.gb_firmware.proofs.Lent.{matched}
use Rattle.gb_firmware.proofs.images.image_in.Goals as goal

pub returns-clause-first : goal.returns-clause-first
returns-clause-first c =
    matched (λ y. y.now) c.find.result (find (has_tag c.args.tag.now) c.args.given.now)
    (find_from_yields_List (has_tag c.args.tag.now) _ _ c.find.result c.find.ensures.ran
    (YieldsList-from_slice c.args.given.now cc) (λ x b q k. search rules))
