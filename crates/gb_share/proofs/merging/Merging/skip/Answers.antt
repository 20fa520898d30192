use Rattle.std.proofs.Common.{◌∙◌}
use Rattle.gb_share.proofs.Placings.{next_ready, not_is}
use Rattle.gb_share.proofs.Shapes.{grows_more}
use Rattle.gb_share.proofs.merging.Merging.skip.Goals as goal

pub returns-then-not-next-clause-ready : goal.returns-then-not-next-clause-ready
returns-then-not-next-clause-ready c =
    next_ready c.loop-next.self c.args.who c.in-Some.next c.in-Some.ensures
    (not_is c.in-Some.next.full c.if-not-next.true)

pub loop-next-preserved : goal.loop-next-preserved
loop-next-preserved c = record {
  hex = c.place_full.ensures.hex ∙ c.loop-next.invariant.hex;
  stands = λ asked entries last s.
      c.in_ok-place_full.ensures.stands asked entries last
      (c.loop-next.invariant.stands asked entries last s);
  others = λ r apart.
      c.in_ok-place_full.ensures.others r apart ∙ c.loop-next.invariant.others r apart;
  order = grows_more c.args.who _ _ _ c.loop-next.invariant.order
      c.in_ok-place_full.ensures.order;
}
