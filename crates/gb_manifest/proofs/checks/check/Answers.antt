use Rattle.std.proofs.Common.{arith}
use Rattle.gb_base.specs.Bytes.{AreBytes}
use Rattle.gb_manifest.proofs.Law.{law, manifest_told, only, whole_told}
use Rattle.gb_manifest.proofs.checks.check.Goals as goal

pub returns : goal.returns
returns c =
    let are : AreBytes c.args.bytes.now = λ k. omega (arith, c.type_inv.bytes k) in
    record {
      answer = c.checked.ensures;
      manifest = manifest_told c.args.bytes.now _ are c.checked.ensures;
      whole = λ m p. whole_told c.args.bytes.now _ m c.checked.ensures p;
      only = only c.args.bytes.now;
      law = law c.args.bytes.now are;
    }
