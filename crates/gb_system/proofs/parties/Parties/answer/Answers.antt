-- The reply goes back and is told.
use Rattle.std.proofs.Common.{[], option_map}
use Rattle.gb_bus.specs.Wiring.{ends_of}
use Rattle.gb_machine.specs.Bus.{connection_of}
use Rattle.gb_system.proofs.Replies.{answered-done, none-not}
use Rattle.gb_system.specs.Serving.{only}
use Rattle.gb_system.specs.Stands.{around_bus, held_items, names_of}
use Rattle.gb_system.proofs.parties.Parties.answer.Goals as goal

pub returns-in_default : goal.returns-in_default
returns-in_default c = record {
  step = λ s x item st live may short.
      absurd (none-not (ends_of x) (option_map ends_of (connection_of c.args.connection s.bus))
      (c.in_default.ensures
      (around_bus (only c.args.connection c.args.side item) s) s.bus
      st.bus) live.ends);
}

pub returns : goal.returns
returns c = record {
  step = λ s x item st live may short.
      answered-done c.reply.new.self c.args.connection c.args.side c.args.asked.now c.args.code
      c.args.payload.now c.in-Some.ends c.in_ok-replied.field-0 x item st live may
      (c.in-Some.ensures
      (around_bus (only c.args.connection c.args.side item) s) s.bus
      st.bus)
      (c.in_ok-reply.ensures.step (names_of s) [] (held_items s) s.bus item st.bus may)
      (λ low. c.in_ok-replied.ensures low short) c.in_ok-push.ensures.ok;
}
