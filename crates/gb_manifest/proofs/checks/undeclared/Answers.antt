use Rattle.std.proofs.Common.{[], ◌∷◌, ◌++◌}
use Rattle.gb_manifest.specs.Walks.{placed_of}
use Rattle.gb_manifest.proofs.Gathered.{behind-none, behind_passed}
use Rattle.gb_manifest.proofs.checks.undeclared.Goals as goal

pub loop-at-init : goal.loop-at-init
loop-at-init c = record {
  before = [];
  walked = behind-none _;
  sound = c.requires;
  known = λ all h. c.new-undeclared.ensures all;
}

pub loop-at-preserved : goal.loop-at-preserved
loop-at-preserved c =
    let inv = c.loop-at.invariant in
    record {
      before = inv.before ++ placed_of (c.in-Some.at, c.in-Some.d) ∷ [];
      walked = behind_passed _ _ _ _ _ inv.walked c.in-Some.ensures.next.passed;
      sound = c.in-Some.ensures.sound;
      known = λ all h. c.take.ensures all inv.before h (inv.known all h);
    }
