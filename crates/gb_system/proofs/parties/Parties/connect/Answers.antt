-- A connect is refused or done as the machine does.
use Rattle.std.proofs.Common.{[]}
use Rattle.gb_system.proofs.Connects.{connect-done, connect-refused, connect-spent}
use Rattle.gb_system.proofs.Landing.{stops}
use Rattle.gb_system.specs.Stands.{around_bus}
use Rattle.gb_system.proofs.parties.Parties.connect.Goals as goal

pub returns-in_err-may_connect : goal.returns-in_err-may_connect
returns-in_err-may_connect c = record {
  step = λ s st.
      stops _ _ c.from_residual.result c.from_residual.ensures.1
      (connect-refused s c.args.intf c.args.cport c.in_err-may_connect.field-0.0 st
      (c.in_err-may_connect.ensures.step s.host st.parts.host));
}

pub returns-then-spent : goal.returns-then-spent
returns-then-spent c = record {
  step = λ s st.
      connect-spent s c.args.intf c.args.cport c.spent.result st
      (c.in_ok-may_connect.ensures.step s.host st.parts.host)
      (c.spent.ensures (around_bus [] s) s.bus st.parts.bus) c.if-spent.true;
}

pub returns : goal.returns
returns c = record {
  step = λ s st.
      connect-done c.args.self.now c.notice.new.self s c.args.intf c.args.cport c.spent.result
      c.args.told.now c.notice.new.told c.requires st
      (c.in_ok-may_connect.ensures.step s.host st.parts.host)
      (c.spent.ensures (around_bus [] s) s.bus st.parts.bus) c.if-spent.false
      c.in_ok-notice.ensures.step;
}
