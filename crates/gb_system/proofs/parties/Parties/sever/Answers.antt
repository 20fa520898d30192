-- A connection is unwired, and then each request that ended so is told.
use Rattle.std.proofs.Common.{◌∙◌}
use Rattle.gb_system.proofs.LoadEnds.{loses, severed-first}
use Rattle.gb_system.proofs.Pulls.{midway-all, midway-number}
use Rattle.gb_system.proofs.parties.Parties.sever.Goals as goal

pub loop-number-init : goal.loop-number-init
loop-number-init c = λ s st.
    severed-first c.args.connection c.items-number-items.result.now st
    (c.items-number-items.ensures ∙ c.in_ok-unwire.ensures.ended s st)
    (c.in_ok-unwire.ensures.step s st)

pub loop-number-preserved : goal.loop-number-preserved
loop-number-preserved c = λ s st.
    let m = c.loop-number.invariant s st in
    midway-number loses c.items-number-items.result.now c.loop-number.number-index
    c.loop-number-test.true m (c.in_ok-load_on.ensures.step m.state m.stand)

pub returns : goal.returns
returns c = record {
  step = λ s st.
      midway-all loses c.items-number-items.result.now c.loop-number.number-index
      c.loop-number-test.false (c.loop-number.invariant s st);
}
