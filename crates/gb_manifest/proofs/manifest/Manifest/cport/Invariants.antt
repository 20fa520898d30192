-- The CPort is among the descriptors that are left.
use Rattle.std.proofs.Common.{◌≡◌}
use Rattle.std.specs.List.{find}
use Rattle.gb_formats.specs.ManifestRules.{is_cport}
use Rattle.gb_manifest.proofs.manifest.Manifest.cport.Given as goal

abbrev pub invariant-loop-d : goal.invariant-loop-d
invariant-loop-d l = record {
  can : (goal.iterator-loop-d).can_next l.d-iterator;
  finite : (goal.iterator-loop-d).is_finite l.d-iterator;
  left : find (is_cport l.id) l.self.descriptors ≡ find (is_cport l.id) l.d-iterator;
}
