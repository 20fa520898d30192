-- Some descriptors were taken, and what they speak of is kept.
use Rattle.std.proofs.Common.{◌≡◌, ◌++◌, List, length}
use Rattle.gb_formats.specs.Descriptors.{Descriptor}
use Rattle.gb_formats.specs.ManifestRules.{Placed}
use Rattle.gb_formats.specs.ManifestSpec.{spec_descriptors}
use Rattle.gb_manifest.specs.Met.{AreDeclared, AreUndeclared}
use Rattle.gb_manifest.specs.Writes.{listed_of, spec_of, unplaced}
use Rattle.gb_manifest.proofs.writing.undeclared_by.Given as goal

abbrev pub invariant-loop-d : goal.invariant-loop-d
invariant-loop-d l = record {
  before : List Descriptor;
  all : spec_descriptors (spec_of l.spec) ≡ before ++ listed_of l.left;
  known : (all : List Placed)
      → AreDeclared l.declared all → AreUndeclared l.undeclared all (unplaced before);
}

abbrev pub decreases-loop-d : goal.decreases-loop-d
decreases-loop-d l = length (listed_of l.left)
