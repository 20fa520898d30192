-- Some descriptors were passed, and what they speak of is kept.
use Rattle.std.proofs.Common.{◌≡◌, List, length}
use Rattle.std.specs.Result.{IsOk}
use Rattle.gb_formats.specs.ManifestRules.{Placed}
use Rattle.gb_manifest.specs.Met.{AreDeclared, AreUndeclared}
use Rattle.gb_manifest.specs.Walks.{walk_of}
use Rattle.gb_manifest.proofs.Gathered.{behind}
use Rattle.gb_manifest.proofs.checks.undeclared.Given as goal

abbrev pub invariant-loop-at : goal.invariant-loop-at
invariant-loop-at l = record {
  before : List Placed;
  walked : walk_of l.fn.walk ≡ behind before (walk_of l.walk);
  sound : IsOk (walk_of l.walk);
  known : (all : List Placed) → AreDeclared l.declared all → AreUndeclared l.undeclared all before;
}

abbrev pub decreases-loop-at : goal.decreases-loop-at
decreases-loop-at l = length l.walk.rest.now
