-- Some descriptors were appended, and the strings of those that are left fit.
use Rattle.std.proofs.Common.{◌≡◌, ◌++◌, ◌∷◌, List, length}
use Rattle.gb_formats.specs.Bytes.{le16}
use Rattle.gb_formats.specs.Descriptors.{Descriptor}
use Rattle.gb_formats.specs.ManifestSpec.{spec_descriptors}
use Rattle.gb_manifest.specs.Writes.{listed_of, spec_of}
use Rattle.gb_manifest.proofs.PlainBytes.{AllShort, plain_all}
use Rattle.gb_manifest.proofs.writing.plain.Given as goal

abbrev pub invariant-loop-d : goal.invariant-loop-d
invariant-loop-d l = record {
  before : List Descriptor;
  all : spec_descriptors (spec_of l.spec) ≡ before ++ listed_of l.left;
  bytes : l.bytes ≡ (le16 l.size ++ (0 ∷ l.spec.minor ∷ plain_all before));
  short : AllShort (listed_of l.left);
}

abbrev pub decreases-loop-d : goal.decreases-loop-d
decreases-loop-d l = length (listed_of l.left)
