-- A hold is refused or done as the machine does.
use Rattle.gb_system.proofs.HeldAsks.{hold-done}
use Rattle.gb_system.proofs.Landing.{stops}
use Rattle.gb_system.proofs.parties.Parties.hold.Goals as goal

pub returns-in_err-connection : goal.returns-in_err-connection
returns-in_err-connection c = record {
  step = λ s told st.
      stops _ _ c.from_residual.result c.from_residual.ensures.1
      (record { refused = c.in_err-connection.ensures s st.parts; stand = st.parts });
}

pub returns : goal.returns
returns c = record {
  step = λ s told st.
      hold-done c.args.self.now c.add.new.self s c.args.intf c.args.cport
      c.in_ok-connection.connection told st (c.in_ok-connection.ensures s st.parts)
      c.in_ok-add.ensures;
}
