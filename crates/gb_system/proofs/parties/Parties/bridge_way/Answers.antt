-- A bridge line is refused on its connection, or becomes a request there.
use Rattle.std.proofs.Common.{[], Err, sym, ap, ◌∙◌, subst}
use Rattle.std.proofs.lemmas.Result.{err_from_is_err_and}
use Rattle.gb_system.proofs.Bridgings.{bridge-goes, bridge-nowhere, bridge-occupied, bridge-spent}
use Rattle.gb_system.proofs.Bridgings.{bridge-unfit}
use Rattle.gb_system.specs.Bridging.{BridgesTo}
use Rattle.gb_system.specs.Stands.{around_bus}
use Rattle.gb_system.proofs.parties.Parties.bridge_way.Goals as goal

pub returns-then-is_some : goal.returns-then-is_some
returns-then-is_some c = record {
  step = λ s st.
      bridge-occupied c.args.self.now s st c.args.name.now c.args.intf c.args.cport c.args.ask.now
      (cc (c.is_some.ensures, c.get.ensures, c.if-is_some.true));
}

pub returns-in_err-connection : goal.returns-in_err-connection
returns-in_err-connection c = record {
  step = λ s st.
      let p = err_from_is_err_and c.from_residual.result c.from_residual.ensures.1 in
      subst (BridgesTo s c.args.name.now c.args.intf c.args.cport c.args.ask.now c.args.room.now
      c.args.room.now) (sym (p.1 ∙ ap Err p.2))
      (bridge-nowhere c.args.self.now s st c.args.name.now c.args.intf c.args.cport c.args.ask.now
      (cc (c.is_some.ensures, c.get.ensures, c.if-is_some.false)) c.in_err-connection.field-0.0
      (c.in_err-connection.ensures.step s.host st.parts.host));
}

pub returns-in_err-request : goal.returns-in_err-request
returns-in_err-request c = record {
  step = λ s st.
      let p = err_from_is_err_and c.from_residual-in_err-request.result
      c.from_residual-in_err-request.ensures.1 in
      subst (BridgesTo s c.args.name.now c.args.intf c.args.cport c.args.ask.now c.args.room.now
      c.bridge.new.out) (sym (p.1 ∙ ap Err p.2))
      (bridge-unfit c.args.self.now s st c.args.name.now c.args.intf c.args.cport c.args.ask.now
      (cc (c.is_some.ensures, c.get.ensures, c.if-is_some.false)) c.in_ok-connection.connection
      (c.in_ok-connection.ensures.step s.host st.parts.host) c.args.room.now c.bridge.new.out
      c.in_err-request.field-0.0 (λ l of. c.in_err-request.ensures.step s.host l st.parts.host of));
}

pub returns-then-spent : goal.returns-then-spent
returns-then-spent c = record {
  step = λ s st.
      bridge-spent c.args.self.now s st c.args.name.now c.args.intf c.args.cport c.args.ask.now
      (cc (c.is_some.ensures, c.get.ensures, c.if-is_some.false)) c.in_ok-connection.connection
      (c.in_ok-connection.ensures.step s.host st.parts.host) c.args.room.now c.bridge.new.out
      c.in_ok-request.request (λ l of. c.in_ok-request.ensures.step s.host l st.parts.host of)
      c.spent.result (c.spent.ensures (around_bus [] s) s.bus st.parts.bus) c.if-spent.true;
}

pub returns : goal.returns
returns c = record {
  step = λ s st.
      bridge-goes c.args.self.now s st c.args.name.now c.args.intf c.args.cport c.args.ask.now
      (cc (c.is_some.ensures, c.get.ensures, c.if-is_some.false)) c.in_ok-connection.connection
      (c.in_ok-connection.ensures.step s.host st.parts.host) c.args.room.now c.bridge.new.out
      c.in_ok-request.request (λ l of. c.in_ok-request.ensures.step s.host l st.parts.host of)
      c.spent.result (c.spent.ensures (around_bus [] s) s.bus st.parts.bus) c.if-spent.false;
}
