-- The slot changes as it would with the whole payload.
use Rattle.gb_bus.proofs.SlotAnswers.{answer-moves}
use Rattle.gb_bus.proofs.slots.Slots.answer.Goals as goal

pub returns-clause-moves : goal.returns-clause-moves
returns-clause-moves c =
    answer-moves c.args.self.now c.end.new.self c.args.n c.args.code c.args.payload.now
    c.in_ok-payload.payload c.in_ok-payload.ensures.same c.end.ensures
