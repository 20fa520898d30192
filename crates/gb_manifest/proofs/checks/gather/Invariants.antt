-- Some descriptors were passed, and what they declare is kept.
use Rattle.std.proofs.Common.{◌≡◌, List, length}
use Rattle.gb_formats.specs.ManifestRules.{Placed}
use Rattle.gb_manifest.specs.Met.{AreDeclared}
use Rattle.gb_manifest.specs.Walks.{walk_of}
use Rattle.gb_manifest.proofs.Gathered.{behind}
use Rattle.gb_manifest.proofs.checks.gather.Given as goal

abbrev pub invariant-loop-walk : goal.invariant-loop-walk
invariant-loop-walk l = record {
  before : List Placed;
  walked : walk_of l.fn.walk ≡ behind before (walk_of l.walk);
  known : AreDeclared l.declared before;
}

abbrev pub decreases-loop-walk : goal.decreases-loop-walk
decreases-loop-walk l = length l.walk.rest.now
