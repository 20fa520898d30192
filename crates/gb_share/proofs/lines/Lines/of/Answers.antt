use Rattle.std.proofs.Common.{◌≡◌, ◌+◌, ◌++◌, List, ℕ, true, arith, drop, length, subst, sym}
use Rattle.std.proofs.lemmas.Bool.Decides.{nat_tests}
use Rattle.std.specs.Prelude.{◌==◌}
use Rattle.gb_share.proofs.Picking.{below_more, own_more}
use Rattle.gb_share.specs.Picks.{AreBelow, lines_by, picked}
use Rattle.gb_share.proofs.lines.Lines.of.Goals as goal

pub loop-place-preserved : goal.loop-place-preserved
loop-place-preserved c =
    let own : (c.index-lines-place.result.who == c.args.who) ≡ true =
    (let test = c.if-lines-place.false in grind (arith, nat_tests)) in
    record {
      all = subst (λ (ps : List ℕ). picked c.items-lines.result.now ps
          ++ lines_by c.args.who (drop (c.loop-place.place + 1) c.items-lines.result.now)
          ≡ lines_by c.args.who c.items-lines.result.now) (sym c.in_ok-push.ensures.items)
          (own_more c.args.who c.items-lines.result.now c.loop-place.places.items c.loop-place.place
          c.index-lines-place.result _ c.loop-place-test.true c.index-lines-place.is own
          c.loop-place.invariant.all);
      below = subst (AreBelow (length c.items-lines.result.now)) (sym c.in_ok-push.ensures.items)
          (below_more _ _ _ c.loop-place.invariant.below c.loop-place-test.true);
    }
