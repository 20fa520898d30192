use Rattle.std.proofs.Common.{ℕ, ◌++◌, ◌∷◌, [], sym, subst, List, ap, ◌∙◌}
use Rattle.gb_formats.specs.Bytes.{le16}
use Rattle.gb_formats.specs.Descriptors.{plain_descriptor}
use Rattle.gb_manifest.specs.Values.{descriptor_of}
use Rattle.gb_manifest.specs.Writes.{spec_of}
use Rattle.gb_manifest.proofs.Listing.{taken}
use Rattle.gb_manifest.proofs.PlainBytes.{AllShort, all_short, header_bytes, plain_all-more}
use Rattle.gb_manifest.proofs.writing.plain.Goals as goal

pub loop-d-init : goal.loop-d-init
loop-d-init c =
    let spec = spec_of c.args.spec.now in
    record {
      before = [];
      all = sym c.of-left.ensures;
      bytes =
          header_bytes _ _ _ c.args.size c.args.spec.now.minor c.new-bytes.ensures
          c.write_u16.ensures c.in_ok-append.ensures;
      short =
          subst AllShort (sym c.of-left.ensures)
          (tt, all_short spec.strings spec.bundles spec.cports c.requires.short);
    }

pub put_descriptor-requires : goal.put_descriptor-requires
put_descriptor-requires c = (subst AllShort c.in-Some.ensures.first c.loop-d.invariant.short).0

pub loop-d-preserved : goal.loop-d-preserved
loop-d-preserved c =
    let inv = c.loop-d.invariant in
    record {
      before = inv.before ++ descriptor_of c.in-Some.d ∷ [];
      all = taken _ _ _ _ _ inv.all c.in-Some.ensures.first;
      bytes =
          c.in_ok-put_descriptor.ensures
          ∙ ap (λ (l : List ℕ). l ++ plain_descriptor (descriptor_of c.in-Some.d)) inv.bytes
          ∙ ap (λ (l : List ℕ). le16 c.args.size ++ (0 ∷ c.args.spec.now.minor ∷ l))
          (sym (plain_all-more inv.before (descriptor_of c.in-Some.d)));
      short = (subst AllShort c.in-Some.ensures.first inv.short).1;
    }
