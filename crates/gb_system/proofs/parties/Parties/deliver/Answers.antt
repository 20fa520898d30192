-- What is delivered is handled as the machine does.
use Rattle.std.proofs.Common.{[], ℕ, List, sym, ap, ◌∙◌}
use Rattle.gb_system.proofs.Arrivals.{answer-here, bad-here, dropped-here, late-here}
use Rattle.gb_system.proofs.Arrivals.{late_label-here, nothing-here, nowhere-here, reads-on}
use Rattle.gb_system.proofs.Arrivals.{unknown-here, unplugged-here}
use Rattle.gb_machine.specs.Arriving.{reading_at}
use Rattle.gb_system.proofs.AskArrivals.{ask-here}
use Rattle.gb_system.specs.Serving.{side_of}
use Rattle.gb_system.specs.Stands.{around_bus}
use Rattle.gb_system.proofs.parties.Parties.deliver.Goals as goal

pub returns-then-is_unplugged : goal.returns-then-is_unplugged
returns-then-is_unplugged c = record {
  step = λ s st.
      unplugged-here s c.args.at st.parts
      (sym c.if-is_unplugged.true ∙ c.is_unplugged.ensures [] s st.parts);
}

pub returns-in-Err-NoConnection : goal.returns-in-Err-NoConnection
returns-in-Err-NoConnection c = record {
  step = λ s st.
      nowhere-here s c.args.at c.deliver.new.self st.parts
      (sym c.if-is_unplugged.false ∙ c.is_unplugged.ensures [] s st.parts)
      (rw c.in-Err-NoConnection.field-0-is at
      (c.in-Err-NoConnection.ensures.step (around_bus [] s) s.bus st.parts.bus));
}

pub returns-in-Err-QueueEmpty : goal.returns-in-Err-QueueEmpty
returns-in-Err-QueueEmpty c = record {
  step = λ s st.
      nothing-here s c.args.at c.deliver.new.self st.parts
      (sym c.if-is_unplugged.false ∙ c.is_unplugged.ensures [] s st.parts)
      (rw c.in-Err-QueueEmpty.field-0-is at
      (c.in-Err-QueueEmpty.ensures.step (around_bus [] s) s.bus st.parts.bus));
}

pub returns-in_ok-ask_at-in-Ask : goal.returns-in_ok-ask_at-in-Ask
returns-in_ok-ask_at-in-Ask c = record {
  step = λ s st.
      ask-here st (sym c.if-is_unplugged.false ∙ c.is_unplugged.ensures [] s st.parts)
      (c.in-Ok.ensures.step (around_bus [] s) s.bus st.parts.bus) c.takes-takes.ensures
      c.in-Ask.asked c.in-Ask.payload c.in-Ask.is c.in_ok-ask_at-in-Ask.ensures.step;
}

pub returns-in_ok-end-in-Ended : goal.returns-in_ok-end-in-Ended
returns-in_ok-end-in-Ended c = record {
  step = λ s st.
      let d = c.in-Ok.ensures.step (around_bus [] s) s.bus st.parts.bus in
      answer-here st (sym c.if-is_unplugged.false ∙ c.is_unplugged.ensures [] s st.parts) d
      c.takes-takes.ensures (record {
        number = c.in-Ended.number;
        connection = c.in-Ok.arrived.connection;
        side = c.side_of.result;
      }) c.in-Ended.kind c.in-Ended.code c.in-Ended.payload c.reading-reading.result c.in-Ended.is
      d.connection c.side_of.ensures
      (λ t stand same. c.reading-reading.ensures [] t d.place.connection stand
      (reads-on s t c.args.at d.place c.in-Ok.arrived.connection st d.named d.connection same)
      ∙ ap (λ (p : List ℕ). reading_at (side_of c.args.at) d.place.connection c.in-Ended.kind
      c.in-Ended.code p) c.items.ensures)
      c.in_ok-end-in-Ended.ensures.step;
}

pub returns-in_ok-tell_late-in-Late : goal.returns-in_ok-tell_late-in-Late
returns-in_ok-tell_late-in-Late c = record {
  step = λ s st.
      late-here st (sym c.if-is_unplugged.false ∙ c.is_unplugged.ensures [] s st.parts)
      (c.in-Ok.ensures.step (around_bus [] s) s.bus st.parts.bus) c.takes-takes.ensures
      c.in-Late.number c.in-Late.is c.in_ok-tell_late-in-Late.ensures;
}

pub returns-in_ok-tell_late_label-in-LateLabel : goal.returns-in_ok-tell_late_label-in-LateLabel
returns-in_ok-tell_late_label-in-LateLabel c = record {
  step = λ s st.
      late_label-here st (sym c.if-is_unplugged.false ∙ c.is_unplugged.ensures [] s st.parts)
      (c.in-Ok.ensures.step (around_bus [] s) s.bus st.parts.bus) c.takes-takes.ensures
      c.in-LateLabel.label c.in-LateLabel.is c.in_ok-tell_late_label-in-LateLabel.ensures;
}

pub returns-in_ok-tell_unknown_label-in-UnknownLabel : goal.returns-in_ok-tell_unknown_label-in-UnknownLabel
returns-in_ok-tell_unknown_label-in-UnknownLabel c = record {
  step = λ s st.
      unknown-here st (sym c.if-is_unplugged.false ∙ c.is_unplugged.ensures [] s st.parts)
      (c.in-Ok.ensures.step (around_bus [] s) s.bus st.parts.bus) c.takes-takes.ensures
      c.in-UnknownLabel.label c.in-UnknownLabel.is c.in_ok-tell_unknown_label-in-UnknownLabel.ensures;
}

pub returns-in_ok-tell_bad_raw-in-BadRaw : goal.returns-in_ok-tell_bad_raw-in-BadRaw
returns-in_ok-tell_bad_raw-in-BadRaw c = record {
  step = λ s st.
      bad-here st (sym c.if-is_unplugged.false ∙ c.is_unplugged.ensures [] s st.parts)
      (c.in-Ok.ensures.step (around_bus [] s) s.bus st.parts.bus) c.takes-takes.ensures
      c.in-BadRaw.fault c.in-BadRaw.is c.in_ok-tell_bad_raw-in-BadRaw.ensures;
}

pub returns-in_ok-tell_dropped-in-Dropped : goal.returns-in_ok-tell_dropped-in-Dropped
returns-in_ok-tell_dropped-in-Dropped c = record {
  step = λ s st.
      dropped-here st (sym c.if-is_unplugged.false ∙ c.is_unplugged.ensures [] s st.parts)
      (c.in-Ok.ensures.step (around_bus [] s) s.bus st.parts.bus) c.takes-takes.ensures
      c.in-Dropped.number c.in-Dropped.reply c.in-Dropped.is c.in_ok-tell_dropped-in-Dropped.ensures;
}
