-- Some descriptors were taken, and what they declare is kept.
use Rattle.std.proofs.Common.{◌≡◌, ◌++◌, List, length}
use Rattle.gb_formats.specs.Descriptors.{Descriptor}
use Rattle.gb_formats.specs.ManifestSpec.{spec_descriptors}
use Rattle.gb_manifest.specs.Met.{AreDeclared}
use Rattle.gb_manifest.specs.Writes.{listed_of, spec_of, unplaced}
use Rattle.gb_manifest.proofs.writing.declared_by.Given as goal

abbrev pub invariant-loop-d : goal.invariant-loop-d
invariant-loop-d l = record {
  before : List Descriptor;
  all : spec_descriptors (spec_of l.spec) ≡ before ++ listed_of l.left;
  known : AreDeclared l.declared (unplaced before);
}

abbrev pub decreases-loop-d : goal.decreases-loop-d
decreases-loop-d l = length (listed_of l.left)
