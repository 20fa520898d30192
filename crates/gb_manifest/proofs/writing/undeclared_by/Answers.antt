use Rattle.std.proofs.Common.{◌≡◌, List, [], ◌∷◌, ◌++◌, append-nil, subst, sym, ap, ◌∙◌}
use Rattle.gb_formats.specs.Descriptors.{Descriptor}
use Rattle.gb_formats.specs.ManifestRules.{Placed}
use Rattle.gb_formats.specs.ManifestSpec.{spec_descriptors}
use Rattle.gb_manifest.specs.Met.{AreUndeclared}
use Rattle.gb_manifest.specs.Values.{descriptor_of}
use Rattle.gb_manifest.specs.Writes.{spec_of, unplaced}
use Rattle.gb_manifest.proofs.Listing.{taken, unplaced-more}
use Rattle.gb_manifest.proofs.writing.undeclared_by.Goals as goal

pub loop-d-init : goal.loop-d-init
loop-d-init c = record {
  before = [];
  all = sym c.of-left.ensures;
  known = λ all h. c.new-undeclared.ensures all;
}

pub loop-d-preserved : goal.loop-d-preserved
loop-d-preserved c =
    let inv = c.loop-d.invariant in
    record {
      before = inv.before ++ descriptor_of c.in-Some.d ∷ [];
      all = taken _ _ _ _ _ inv.all c.in-Some.ensures.first;
      known = λ all h.
          subst (λ (ps : List Placed). AreUndeclared c.take.new.self all ps)
          (unplaced-more inv.before (descriptor_of c.in-Some.d))
          (c.take.ensures all (unplaced inv.before) h (inv.known all h));
    }

pub returns : goal.returns
returns c h =
    let inv = c.loop-d.invariant in
    let all = spec_descriptors (spec_of c.args.spec.now) in
    let whole : inv.before ≡ all =
    sym (inv.all ∙ ap (λ (l : List Descriptor). inv.before ++ l) c.in_default.ensures
    ∙ append-nil inv.before) in
    subst (λ (ds : List Descriptor). AreUndeclared c.loop-d.undeclared (unplaced all) (unplaced ds))
    whole (inv.known (unplaced all) h)
