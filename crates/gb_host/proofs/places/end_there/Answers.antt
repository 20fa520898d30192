-- The last place is one of a gone connection.
use Rattle.std.proofs.Common.{arith, ◌∙◌}
use Rattle.gb_host.proofs.LinksThere.{there-last}
use Rattle.gb_host.proofs.places.end_there.Goals as goal

pub loop-end-preserved : goal.loop-end-preserved
loop-end-preserved c = record {
  here = let most = c.loop-end.invariant.here in omega (arith, most);
  same =
      there-last c.args.places.now c.loop-end.end _ c.loop-end-test.true c.loop-end.invariant.here
      c.if-places-end.false ∙ c.loop-end.invariant.same;
}
