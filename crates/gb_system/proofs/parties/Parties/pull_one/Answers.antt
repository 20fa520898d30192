-- One interface is pulled as the machine does.
use Rattle.std.proofs.Common.{[], ◌∙◌, subst}
use Rattle.gb_machine.specs.Actions.{each}
use Rattle.gb_machine.specs.Wires.{unwires}
use Rattle.gb_system.proofs.Midways.{midway-first}
use Rattle.gb_system.proofs.Pulls.{midway-all, midway-number, pulled-one}
use Rattle.gb_system.specs.Doing.{Does}
use Rattle.gb_system.specs.Stands.{around_bus}
use Rattle.gb_system.proofs.parties.Parties.pull_one.Goals as goal

pub loop-connection-init : goal.loop-connection-init
loop-connection-init c = λ s st.
    midway-first (each c.items-connection-items.result.now unwires) st

pub loop-connection-preserved : goal.loop-connection-preserved
loop-connection-preserved c = λ s st.
    let m = c.loop-connection.invariant s st in
    midway-number unwires c.items-connection-items.result.now c.loop-connection.connection-index
    c.loop-connection-test.true m (c.in_ok-unwire.ensures.step m.state m.stand)

pub returns : goal.returns
returns c = record {
  step = λ s st.
      let x = c.loop-connection.self in
      let numbers = c.items-connection-items.result.now in
      let all = c.items-connection-items.ensures
      ∙ c.in_ok-wired_to.ensures (around_bus [] s) s.bus st.bus in
      let unwired = subst (λ ns. Does x (each ns unwires) s c.args.told.now
      c.loop-connection.told) all (midway-all unwires numbers c.loop-connection.connection-index
      c.loop-connection-test.false (c.loop-connection.invariant s st)) in
      pulled-one x s c.args.intf c.unplug.new.self c.forget.new.self c.pull.new.self
      c.args.told.now c.loop-connection.told unwired c.unplug.ensures c.forget.ensures
      (c.pull.ensures.step _ unwired.stand.ports);
}
