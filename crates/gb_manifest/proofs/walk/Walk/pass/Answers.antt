use Rattle.std.proofs.Common.{◌≤◌, arith, ◌∙◌}
use Rattle.gb_manifest.proofs.Walks.{walk_from-front}
use Rattle.gb_manifest.proofs.walk.Walk.pass.Goals as goal

pub returns : goal.returns
returns c =
    let front = c.requires in
    let one : 1 ≤ c.args.size = omega (arith, front.eight) in
    record {
      passed = walk_from-front _ _ _ one front.size_is front.sound ∙ cc;
      shorter = omega (arith, front.eight, front.within, c.split_at.ensures.back_len);
    }
