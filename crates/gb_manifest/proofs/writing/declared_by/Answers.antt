use Rattle.std.proofs.Common.{List, [], ◌∷◌, ◌++◌, subst}
use Rattle.gb_formats.specs.ManifestRules.{Placed}
use Rattle.gb_manifest.specs.Met.{AreDeclared}
use Rattle.gb_manifest.specs.Values.{descriptor_of}
use Rattle.gb_manifest.specs.Writes.{unplaced}
use Rattle.gb_manifest.proofs.Listing.{taken, unplaced-more}
use Rattle.gb_manifest.proofs.writing.declared_by.Goals as goal

pub loop-d-preserved : goal.loop-d-preserved
loop-d-preserved c =
    let inv = c.loop-d.invariant in
    record {
      before = inv.before ++ descriptor_of c.in-Some.d ∷ [];
      all = taken _ _ _ _ _ inv.all c.in-Some.ensures.first;
      known =
          subst (λ (ps : List Placed). AreDeclared c.take.new.self ps)
          (unplaced-more inv.before (descriptor_of c.in-Some.d))
          (c.take.ensures (unplaced inv.before) inv.known);
    }
