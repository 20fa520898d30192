-- A drain is refused or done as the machine does.
use Rattle.gb_system.proofs.Connects.{drain-done}
use Rattle.gb_system.proofs.Landing.{stops}
use Rattle.gb_system.proofs.parties.Parties.drain.Goals as goal

pub returns-in_err-connection : goal.returns-in_err-connection
returns-in_err-connection c = record {
  step = λ s st.
      stops _ _ c.from_residual.result c.from_residual.ensures.1 (record {
        refused = c.in_err-connection.ensures.step s.host st.parts.host;
        stand = st.parts;
      });
}

pub returns : goal.returns
returns c = record {
  step = λ s st.
      let may = c.in_ok-connection.ensures.step s.host st.parts.host in
      drain-done c.args.self.now c.notice.new.self c.close_drained.new.self s c.args.intf
      c.args.cport c.in_ok-connection.connection c.args.told.now c.notice.new.told
      c.close_drained.new.told st may.0 may.1 c.in_ok-notice.ensures.step
      c.in_ok-close_drained.ensures.step;
}
