-- A load is refused or done as the machine does.
use Rattle.gb_system.proofs.LoadEnds.{load-on_way}
use Rattle.gb_system.proofs.LoadStarts.{load-done}
use Rattle.gb_system.proofs.Landing.{stops}
use Rattle.gb_system.proofs.parties.Parties.load.Goals as goal

pub returns-in_err-connection : goal.returns-in_err-connection
returns-in_err-connection c = record {
  step = λ s st.
      stops _ _ c.from_residual.result c.from_residual.ensures.1
      (record { refused = c.in_err-connection.ensures.line s st.parts; stand = st.parts });
}

pub returns : goal.returns
returns c = record {
  step = λ s st.
      let k = c.in_ok-connection.connection in
      load-done c.args.intf c.args.cport c.args.tag.now k c.load.new.self c.in_ok-own.own st.parts
      c.requires.2 (c.in_ok-connection.ensures.line s st.parts) c.in_ok-own.ensures
      (λ t stand askable.
      load-on_way k c.args.intf c.args.cport c.in_ok-own.own
      (c.in_ok-load_ask.ensures.step t stand askable));
}
