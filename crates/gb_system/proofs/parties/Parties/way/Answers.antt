-- A request goes on a connection, or isn't sent, as the machine says.
use Rattle.std.proofs.Common.{[], ◌≤◌, ◌<◌, length, sym, ap, ◌∙◌, Err, subst, arith}
use Rattle.std.proofs.lemmas.Result.{err_from_is_err_and}
use Rattle.gb_system.proofs.Ways.{goes, goes-long, goes-nowhere, goes-occupied, goes-spent}
use Rattle.gb_system.specs.Sending.{GoesAs}
use Rattle.gb_system.specs.Stands.{around_bus}
use Rattle.gb_system.proofs.parties.Parties.way.Goals as goal

pub returns-then-is_some : goal.returns-then-is_some
returns-then-is_some c = record {
  step = λ s st.
      goes-occupied c.args.self.now s st c.args.name.now c.args.to c.args.kind c.args.payload.now
      (cc (c.is_some.ensures, c.get.ensures, c.if-is_some.true));
}

pub returns-in_err-connection : goal.returns-in_err-connection
returns-in_err-connection c = record {
  step = λ s st.
      let p = err_from_is_err_and c.from_residual.result c.from_residual.ensures.1 in
      subst (λ r. GoesAs s c.args.name.now c.args.to c.args.kind c.args.payload.now r)
      (sym (p.1 ∙ ap Err p.2))
      (goes-nowhere c.args.self.now s st c.args.name.now c.args.to c.args.kind c.args.payload.now
      (cc (c.is_some.ensures, c.get.ensures, c.if-is_some.false)) c.in_err-connection.field-0.0
      (c.in_err-connection.ensures.step s st));
}

pub returns-then-payload-gt-MOST_PAYLOAD : goal.returns-then-payload-gt-MOST_PAYLOAD
returns-then-payload-gt-MOST_PAYLOAD c = record {
  step = λ s st.
      let long : 2040 < length c.args.payload.now =
      omega (arith, c.if-payload-gt-MOST_PAYLOAD.true) in
      goes-long c.args.self.now s st c.args.name.now c.args.to c.args.kind c.args.payload.now
      (cc (c.is_some.ensures, c.get.ensures, c.if-is_some.false)) c.in_ok-connection.connection
      (c.in_ok-connection.ensures.step s st) long;
}

pub returns-then-spent : goal.returns-then-spent
returns-then-spent c = record {
  step = λ s st.
      let short : length c.args.payload.now ≤ 2040 =
      omega (arith, c.if-payload-gt-MOST_PAYLOAD.false) in
      goes-spent c.args.self.now s st c.args.name.now c.args.to c.args.kind c.args.payload.now
      (cc (c.is_some.ensures, c.get.ensures, c.if-is_some.false)) c.in_ok-connection.connection
      (c.in_ok-connection.ensures.step s st) short c.spent.result
      (c.spent.ensures (around_bus [] s) s.bus st.parts.bus) c.if-spent.true;
}

pub returns : goal.returns
returns c = record {
  step = λ s st.
      let short : length c.args.payload.now ≤ 2040 =
      omega (arith, c.if-payload-gt-MOST_PAYLOAD.false) in
      goes c.args.self.now s st c.args.name.now c.args.to c.args.kind c.args.payload.now
      (cc (c.is_some.ensures, c.get.ensures, c.if-is_some.false)) c.in_ok-connection.connection
      (c.in_ok-connection.ensures.step s st) short c.spent.result
      (c.spent.ensures (around_bus [] s) s.bus st.parts.bus) c.if-spent.false;
}
