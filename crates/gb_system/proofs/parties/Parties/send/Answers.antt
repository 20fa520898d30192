-- A request is refused or sent as the machine does.
use Rattle.std.proofs.Common.{subst, sym}
use Rattle.gb_base.specs.declared.event.Event.TheVariants as event
use Rattle.gb_formats.specs.ValidEvents.{IsValid}
use Rattle.gb_system.proofs.Landing.{stops}
use Rattle.gb_system.proofs.Sends.{send-done, send-refused}
use Rattle.gb_system.specs.Doing.{IsDone, IsRefused}
use Rattle.gb_system.proofs.parties.Parties.send.Goals as goal

pub returns-in_err-connection : goal.returns-in_err-connection
returns-in_err-connection c = record {
  step = λ s st.
      stops _ _ c.from_residual-in_err-connection.result c.from_residual-in_err-connection.ensures.1
      (subst (λ name. IsRefused c.args.self.now s (event.Send name c.args.to c.args.kind
      c.args.payload.now c.args.timeout) c.in_err-connection.field-0.0) c.in_ok-name.ensures
      (send-refused s c.in_ok-name.name c.args.kind c.args.payload.now c.args.to
      c.args.timeout c.in_err-connection.field-0.0 c.requires.1 st
      (c.in_err-connection.ensures.step s st)));
}

pub returns : goal.returns
returns c = record {
  step = λ s st.
      subst (λ name. IsDone c.send_on.new.self s (event.Send name c.args.to c.args.kind
      c.args.payload.now c.args.timeout) c.args.told.now c.send_on.new.told) c.in_ok-name.ensures
      (send-done s c.in_ok-name.name c.args.kind c.args.payload.now
      c.in_ok-connection.connection c.args.self.now c.send_on.new.self c.args.to c.args.timeout
      c.from-wait.result c.args.told.now c.send_on.new.told
      (subst (λ name. IsValid (event.Send name c.args.to c.args.kind c.args.payload.now
      c.args.timeout)) (sym c.in_ok-name.ensures) c.requires)
      c.from-wait.ensures st (c.in_ok-connection.ensures.step s st)
      c.in_ok-send_on.ensures.step);
}
