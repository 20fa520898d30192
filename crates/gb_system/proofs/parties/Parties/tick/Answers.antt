-- Time passes as in the machine.
use Rattle.std.proofs.Common.{[], ◌+◌, slice_index_or, ap, ◌∙◌}
use Rattle.gb_base.specs.declared.outcome.Outcome.TheVariants as outcome
use Rattle.gb_machine.specs.GivingUp.{gives_up}
use Rattle.gb_system.proofs.Midways.{drop-number}
use Rattle.gb_system.proofs.Pulls.{midway-all}
use Rattle.gb_system.proofs.Ticks.{due-are, later-stand, mid-at, mid-first, mid-may, mid-next}
use Rattle.gb_system.proofs.Ticks.{tick-done}
use Rattle.gb_system.specs.Stands.{around_bus}
use Rattle.gb_system.proofs.parties.Parties.tick.Goals as goal

pub loop-number-init : goal.loop-number-init
loop-number-init c = λ s st.
    mid-first st.run c.args.millis c.items-number-items.result.now
    (later-stand c.args.millis _ st.parts
    (c.in_ok-self.ensures.time ∙ ap (λ n. c.args.self.now.time + n) c.from.ensures))
    (c.items-number-items.ensures ∙ c.in_ok-due.ensures (around_bus [] s) s.bus st.parts.bus
    ∙ due-are s c.args.millis _ st.parts
    (c.in_ok-self.ensures.time ∙ ap (λ n. c.args.self.now.time + n) c.from.ensures))

pub loop-number-preserved : goal.loop-number-preserved
loop-number-preserved c = λ s st.
    let numbers = c.items-number-items.result.now in
    let i = c.loop-number.number-index in
    let n = slice_index_or numbers i 0 in
    let t = mid-at i n (drop-number numbers i c.loop-number-test.true)
    (c.loop-number.invariant s st) in
    mid-next n t (c.in_ok-time_out.ensures.step t.midway.state t.midway.stand (mid-may n t))

pub returns : goal.returns
returns c = record {
  step = λ s st.
      let numbers = c.items-number-items.result.now in
      let wait = c.in_ok-self.ensures.time ∙ ap (λ n. c.args.self.now.time + n) c.from.ensures in
      let t = c.loop-number.invariant s st in
      tick-done _ _ s c.args.millis numbers c.args.told.now c.loop-number.told
      (later-stand c.args.millis _ st.parts wait)
      (c.items-number-items.ensures ∙ c.in_ok-due.ensures (around_bus [] s) s.bus st.parts.bus
      ∙ due-are s c.args.millis _ st.parts wait)
      (midway-all (gives_up outcome.Timeout) numbers c.loop-number.number-index
      c.loop-number-test.false t.midway);
}
