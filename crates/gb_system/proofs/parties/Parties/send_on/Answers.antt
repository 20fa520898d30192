-- A request is sent on a connection as the machine does.
use Rattle.std.proofs.Common.{refl}
use Rattle.gb_machine.specs.Bus.{next_number}
use Rattle.gb_system.proofs.Sends.{sent-numbered, sent-on}
use Rattle.gb_system.proofs.parties.Parties.send_on.Goals as goal

pub returns-in_ok-bind : goal.returns-in_ok-bind
returns-in_ok-bind c = record {
  step = λ s st free askable label.
      sent-on c.args.connection c.args.kind c.args.payload.now c.in_ok-deadline.deadline
      c.args.self.now s st c.in_ok-number.field-0 c.in_ok-number.ensures.number label
      c.ask.new.self c.keep.new.self c.bind.new.self c.args.name c.args.timeout c.in-Some.number
      free
      (record { bound = c.in_ok-bind.ensures.ok; room = c.in_ok-bind.ensures.room }) c.keep.ensures
      c.in_ok-deadline.ensures.time c.in-Some.is
      (c.in_ok-number.ensures.step s st askable (λ e. refl));
}

pub returns-in_default : goal.returns-in_default
returns-in_default c = record {
  step = λ s st free askable label.
      absurd (c.in_default.not-Some (next_number s.bus)
      (sent-numbered c.args.connection c.args.kind c.args.payload.now c.in_ok-deadline.deadline
      c.args.self.now s st c.in_ok-number.field-0 c.in_ok-number.ensures.number label));
}
