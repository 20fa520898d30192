use Rattle.std.proofs.Common.{◌≡◌, [], ◌∷◌, ◌++◌, length, rules, tests, ap, ◌∙◌}
use Rattle.std.proofs.lemmas.Result.{err_from_is_err_and}
use Rattle.gb_manifest.specs.Walks.{placed_of}
use Rattle.gb_manifest.proofs.Gathered.{behind, behind-none, behind_ended, behind_passed}
use Rattle.gb_manifest.proofs.Walks.{length-none, walk_from-empty}
use Rattle.gb_manifest.proofs.checks.gather.Goals as goal

pub loop-walk-init : goal.loop-walk-init
loop-walk-init c = record {
  before = [];
  walked = behind-none _;
  known = c.requires;
}

pub loop-walk-preserved : goal.loop-walk-preserved
loop-walk-preserved c =
    let inv = c.loop-walk.invariant in
    record {
      before = inv.before ++ placed_of c.pass-at.result ∷ [];
      walked = behind_passed _ _ _ _ _ inv.walked c.pass-at.ensures.passed;
      known = c.take.ensures inv.before inv.known;
    }

pub returns-in_err-size : goal.returns-in_err-size
returns-in_err-size c =
    let inv = c.loop-walk.invariant in
    let p = err_from_is_err_and c.from_residual.result c.from_residual.ensures.1 in
    rw (p.1, p.2) (inv.walked ∙ ap (λ r. behind inv.before r) c.in_err-size.ensures)

pub returns : goal.returns
returns c =
    let none : length c.loop-walk.walk.rest.now ≡ 0 = search (rules, tests) in
    record {
      all = c.loop-walk.invariant.before;
      whole = behind_ended _ _ _ c.loop-walk.invariant.walked
          (walk_from-empty _ _ (length-none _ none));
      declared_are = c.loop-walk.invariant.known;
    }
