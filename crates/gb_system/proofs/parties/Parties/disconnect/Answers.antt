-- A disconnect is refused or done as the machine does.
use Rattle.std.proofs.Common.{[]}
use Rattle.gb_system.proofs.Connects.{disconnect-done, disconnect-refused, disconnect-spent}
use Rattle.gb_system.proofs.Landing.{stops}
use Rattle.gb_system.proofs.parties.Parties.disconnect.Goals as goal

pub returns-in_err-may_disconnect : goal.returns-in_err-may_disconnect
returns-in_err-may_disconnect c = record {
  step = λ s st.
      stops _ _ c.from_residual.result c.from_residual.ensures.1
      (disconnect-refused s c.args.intf c.args.cport c.in_err-may_disconnect.field-0.0 st
      (c.in_err-may_disconnect.ensures.step s.host st.parts.host));
}

pub returns-then-is_control_spent : goal.returns-then-is_control_spent
returns-then-is_control_spent c = record {
  step = λ s st.
      disconnect-spent s c.args.intf c.args.cport c.is_control_spent.result st
      (c.in_ok-may_disconnect.ensures.step s.host st.parts.host)
      (c.is_control_spent.ensures [] s st.parts) c.if-is_control_spent.true;
}

pub returns : goal.returns
returns c = record {
  step = λ s st.
      disconnect-done c.args.self.now c.notice.new.self s c.args.intf c.args.cport
      c.is_control_spent.result c.args.told.now c.notice.new.told st
      (c.in_ok-may_disconnect.ensures.step s.host st.parts.host)
      (c.is_control_spent.ensures [] s st.parts) c.if-is_control_spent.false
      c.in_ok-notice.ensures.step;
}
