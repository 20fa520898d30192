-- Each delivery goes on with the settle, and nothing waits or all are made at its end.
use Rattle.std.proofs.Common.{[], ◌≡◌, Some, None, sym, arith}
use Rattle.gb_machine.specs.Waiting.{first_waiting}
use Rattle.gb_system.proofs.Settles.{settling-end, settling-first, settling-more, settling-none}
use Rattle.gb_system.proofs.Settles.{settling-stopped}
use Rattle.gb_system.specs.Stands.{around_bus}
use Rattle.gb_system.proofs.parties.Parties.settle.Goals as goal

pub loop-count-init : goal.loop-count-init
loop-count-init c = λ s st. settling-first c.args.most st

pub returns-in_default : goal.returns-in_default
returns-in_default c = record {
  step = λ s st.
      let m = c.loop-count.invariant s st in
      let none : first_waiting m.midway.state.bus
      ≡ None = sym (c.in_default.ensures (around_bus [] m.midway.state) m.midway.state.bus
      m.midway.stand.bus) in
      settling-none (omega (arith, c.loop-count-test.true)) m none c.in_ok-push.ensures.ok;
}

pub returns-in_err-deliver : goal.returns-in_err-deliver
returns-in_err-deliver c = record {
  step = λ s st.
      let m = c.loop-count.invariant s st in
      let some : first_waiting m.midway.state.bus
      ≡ Some c.in-Some.at = sym (c.in-Some.ensures (around_bus [] m.midway.state)
      m.midway.state.bus m.midway.stand.bus) in
      settling-stopped c.deliver.new.self c.deliver.new.told c.in-Some.at
      c.in_err-deliver.field-0.0 c.from_residual-in_err-deliver.result
      c.from_residual-in_err-deliver.ensures.1 m some
      (c.in_err-deliver.ensures.step m.midway.state
      (record { parts = m.midway.stand; run = m.run }));
}

pub loop-count-preserved : goal.loop-count-preserved
loop-count-preserved c = λ s st.
    let m = c.loop-count.invariant s st in
    let some : first_waiting m.midway.state.bus
    ≡ Some c.in-Some.at = sym (c.in-Some.ensures (around_bus [] m.midway.state) m.midway.state.bus
    m.midway.stand.bus) in
    settling-more c.in-Some.at (omega (arith, c.loop-count-test.true)) m some
    (c.in_ok-deliver.ensures.step m.midway.state (record { parts = m.midway.stand; run = m.run }))

pub returns : goal.returns
returns c = record {
  step = λ s st.
      settling-end (omega (arith, c.loop-count-test.false, c.loop-count.auto.count-end))
      (c.loop-count.invariant s st) c.in_ok-push-2.ensures.ok;
}
