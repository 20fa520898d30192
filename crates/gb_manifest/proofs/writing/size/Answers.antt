use Rattle.std.proofs.Common.{List, ◌++◌, ◌∷◌, [], arith, length, length-append, ap, ◌∙◌}
use Rattle.gb_manifest.specs.Values.{descriptor_of}
use Rattle.gb_manifest.proofs.Listing.{taken, longer}
use Rattle.gb_manifest.proofs.PlainBytes.{all_fit-more, plain_all, plain_all-more}
use Rattle.gb_manifest.proofs.PlainBytes.{plain_descriptor-length}
use Rattle.gb_formats.specs.Descriptors.{Descriptor, plain_descriptor}
use Rattle.gb_manifest.proofs.writing.size.Goals as goal

pub returns-then-size-gt65535 : goal.returns-then-size-gt65535
returns-then-size-gt65535 c =
    let inv = c.loop-d.invariant in
    longer _ inv.before _ (descriptor_of c.in-Some.d) 65535 c.loop-d.size
    (inv.all ∙ ap (λ (l : List Descriptor). inv.before ++ l) c.in-Some.ensures.first) inv.size_is
    (omega (arith, c.least_size-size.ensures))

pub loop-d-preserved : goal.loop-d-preserved
loop-d-preserved c =
    let inv = c.loop-d.invariant in
    let d = descriptor_of c.in-Some.d in
    let parts = ap length (plain_all-more inv.before d)
    ∙ length-append (plain_all inv.before) (plain_descriptor d) in
    record {
      before = inv.before ++ d ∷ [];
      all = taken _ _ _ _ _ inv.all c.in-Some.ensures.first;
      size_is =
          omega (arith, inv.size_is, parts, plain_descriptor-length d, c.least_size-size.ensures);
      within = omega arith;
      fit = all_fit-more inv.before d inv.fit c.in-Some.ensures.fits;
    }
