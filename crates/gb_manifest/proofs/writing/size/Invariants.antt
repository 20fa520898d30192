-- The size of some descriptors was added up.
use Rattle.std.proofs.Common.{◌≡◌, ◌≤◌, ◌+◌, ◌++◌, List, length}
use Rattle.gb_formats.specs.Descriptors.{Descriptor}
use Rattle.gb_formats.specs.ManifestSpec.{spec_descriptors}
use Rattle.gb_manifest.specs.Writes.{AllFit, listed_of, spec_of}
use Rattle.gb_manifest.proofs.PlainBytes.{plain_all}
use Rattle.gb_manifest.proofs.writing.size.Given as goal

abbrev pub invariant-loop-d : goal.invariant-loop-d
invariant-loop-d l = record {
  before : List Descriptor;
  all : spec_descriptors (spec_of l.spec) ≡ before ++ listed_of l.left;
  size_is : l.size ≡ 4 + length (plain_all before);
  within : l.size ≤ 65535;
  fit : AllFit before;
}

abbrev pub decreases-loop-d : goal.decreases-loop-d
decreases-loop-d l = length (listed_of l.left)
