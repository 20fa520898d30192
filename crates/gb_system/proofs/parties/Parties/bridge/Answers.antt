-- A bridge line is refused, or its request is sent.
use Rattle.std.proofs.Common.{subst}
use Rattle.gb_base.specs.declared.event.Event.TheVariants as event
use Rattle.gb_system.proofs.BridgeSends.{bridge-done}
use Rattle.gb_system.proofs.Landing.{stops}
use Rattle.gb_system.specs.Doing.{IsDone, IsRefused}
use Rattle.gb_system.proofs.parties.Parties.bridge.Goals as goal

pub returns-in_err-connection : goal.returns-in_err-connection
returns-in_err-connection c = record {
  step = λ s st.
      stops _ _ c.from_residual-in_err-connection.result c.from_residual-in_err-connection.ensures.1
      (subst (λ name. IsRefused c.args.self.now s (event.Bridge name c.args.intf c.args.cport
      c.args.ask.now) c.in_err-connection.field-0.0) c.in_ok-name.ensures
      (record { refused = c.in_err-connection.ensures.step s st; stand = st.parts }));
}

pub returns : goal.returns
returns c = record {
  step = λ s st.
      subst (λ name. IsDone c.send_on.new.self s (event.Bridge name c.args.intf c.args.cport
      c.args.ask.now) c.args.told.now c.send_on.new.told) c.in_ok-name.ensures
      (bridge-done s c.in_ok-name.name c.args.intf c.args.cport c.args.ask.now c.args.self.now
      c.send_on.new.self c.sent.new.self _ c.bridge_way.new.room c.front-payload.result.now _
      c.args.told.now c.send_on.new.told st (c.in_ok-connection.ensures.step s st)
      c.sent.ensures.step c.front-payload.ensures c.in_ok-send_on.ensures.step);
}
