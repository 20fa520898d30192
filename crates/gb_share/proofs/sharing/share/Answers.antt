use Rattle.std.proofs.Common.{◌∷◌, Err, ap, ◌∙◌}
use Rattle.gb_desk.specs.Passes.{known}
use Rattle.gb_share.proofs.AloneEnds.{alone_first}
use Rattle.gb_share.proofs.Closings.{shared_end}
use Rattle.gb_share.proofs.Using.{never_most}
use Rattle.gb_share.proofs.Rests.{numbered_same, same_first, valid_first, valid_same}
use Rattle.gb_share.proofs.sharing.share.Goals as goal

pub returns-in-Ok-clause-shared : goal.returns-in-Ok-clause-shared
returns-in-Ok-clause-shared g c =
    let same = same_first c.args.first.now c.run_lines-ran.new.first c.args.others.now
    c.run_lines-ran.new.others c.run_lines-ran.ensures.same in
    shared_end c.run_lines-ran.new.first c.run_lines-ran.new.others _ _ c.in_ok-system.system _ _
    (same.0 ∙ c.requires.first.0)
    (numbered_same _ _ same.1 c.requires.others.0)
    (ap known c.new-hand.ensures.pass ∙ c.in_ok-desk.ensures.first) c.in_ok-system.ensures.first
    c.run_lines-ran.new.hand.within c.in-Ok.ensures.ran c.close-end.ensures
    c.in-Ok.ensures.whole
    (valid_same (c.args.first.now ∷ c.args.others.now)
    (c.run_lines-ran.new.first ∷ c.run_lines-ran.new.others) c.run_lines-ran.ensures.same
    (valid_first c.args.first.now c.args.others.now c.requires.valid.0 c.requires.valid.1))
    (c.in-Ok.ensures.exact (alone_first c.args.first.now _ _ c.in_ok-system.system
    c.requires.first.1 (ap known c.new-hand.ensures.pass ∙ c.in_ok-desk.ensures.first)
    c.new-hand.ensures.held))

pub refused_by-requires : goal.refused_by-requires
refused_by-requires g c = record {
  unspent = λ spent.
      never_most c.args.first.now c.args.others.now _ _ c.in_ok-system.system _ _
      c.requires.few (ap known c.new-hand.ensures.pass ∙ c.in_ok-desk.ensures.first)
      c.in_ok-system.ensures.taken c.run_lines-ran.ensures.uses c.close-end.ensures
      (c.run_lines-ran.ensures.spent (c.in-Err.is ∙ ap (λ e. Err e) spent));
}
