-- An event is told as refused, or as done.
use Rattle.gb_system.proofs.Landing.{lands, lands-refused}
use Rattle.gb_system.proofs.parties.Parties.event.Goals as goal

pub returns-in-Ok : goal.returns-in-Ok
returns-in-Ok c = record {
  step = λ s st. lands c.in_ok-tell_alone.ensures (c.in-Ok.ensures.step s st);
}

pub returns-in_ok-tell_refused-in-Err-Refused : goal.returns-in_ok-tell_refused-in-Err-Refused
returns-in_ok-tell_refused-in-Err-Refused c = record {
  step = λ s st.
      lands-refused c.in_ok-tell_refused-in-Err-Refused.ensures
      (rw c.in-Err-Refused.field-0-is at (c.in-Err-Refused.ensures.step s st));
}
