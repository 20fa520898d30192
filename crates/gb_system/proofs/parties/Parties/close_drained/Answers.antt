-- A connection that drains begins to close where nothing is open on it.
use Rattle.std.proofs.Common.{[]}
use Rattle.gb_machine.specs.Host.{link_of}
use Rattle.gb_system.proofs.Endings.{idle-closes, idle-is, live-drained, undrained, unidle}
use Rattle.gb_system.specs.Stands.{around_bus}
use Rattle.gb_system.proofs.parties.Parties.close_drained.Goals as goal

pub returns-then-not-drains : goal.returns-then-not-drains
returns-then-not-drains c = record {
  step = λ s st may.
      undrained c.args.connection c.drains.result
      (c.drains.ensures (link_of c.args.connection s.host) (c.state.ensures.step s.host st.host))
      c.if-not-drains.true st;
}

pub returns-then-not-idle : goal.returns-then-not-idle
returns-then-not-idle c = record {
  step = λ s st may.
      let known = c.drains.ensures (link_of c.args.connection s.host)
      (c.state.ensures.step s.host st.host) in
      unidle c.args.connection c.idle.result
      (idle-is c.args.connection s c.idle.result (c.idle.ensures (around_bus [] s) s.bus st.bus)
      (live-drained c.args.connection s c.drains.result known c.if-not-drains.false may))
      c.if-not-idle.true st;
}

pub returns : goal.returns
returns c = record {
  step = λ s st may.
      let known = c.drains.ensures (link_of c.args.connection s.host)
      (c.state.ensures.step s.host st.host) in
      idle-closes c.args.connection c.idle.result
      (idle-is c.args.connection s c.idle.result (c.idle.ensures (around_bus [] s) s.bus st.bus)
      (live-drained c.args.connection s c.drains.result known c.if-not-drains.false may))
      c.if-not-idle.false (c.in_ok-notice.ensures.step s st may.turn);
}
