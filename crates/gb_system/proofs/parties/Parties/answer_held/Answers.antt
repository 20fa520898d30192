-- A line that answers is refused or done as the machine does.
use Rattle.gb_system.proofs.HeldAnswers.{answer-done, answer-refused, answer-unheld}
use Rattle.gb_system.proofs.Landing.{stops}
use Rattle.gb_system.proofs.parties.Parties.answer_held.Goals as goal

pub returns-in_err-connection : goal.returns-in_err-connection
returns-in_err-connection c = record {
  step = λ s st.
      stops _ _ c.from_residual.result c.from_residual.ensures.1
      (answer-refused s st c.args.intf c.args.cport c.args.place c.in_err-connection.field-0.0
      (c.in_err-connection.ensures s st.parts));
}

pub returns-in_default : goal.returns-in_default
returns-in_default c = record {
  step = λ s st.
      answer-unheld s st c.args.intf c.args.cport c.in_ok-connection.connection
      (c.in_ok-connection.ensures s st.parts) c.take.new.self c.args.place c.in_default.ensures;
}

pub returns : goal.returns
returns c = record {
  step = λ s st.
      answer-done s st c.args.intf c.args.cport c.in_ok-connection.connection
      (c.in_ok-connection.ensures s st.parts) c.serve_held.new.self c.take.new.self c.args.place
      c.in-Some.request c.args.told.now c.serve_held.new.told c.requires.2.0 c.in-Some.ensures
      c.in_ok-serve_held.ensures.step;
}
