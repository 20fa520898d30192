-- A reply stands for the machine's.
use Rattle.gb_bus.proofs.Replies.{replies}
use Rattle.gb_bus.proofs.bus.Bus.reply.Goals as goal

pub returns : goal.returns
returns c = record {
  step = λ names before after b item.
      replies c.args.self.now _ c.args.k c.args.side c.args.asked.now c.args.code
      c.args.payload.now names before after b item
      (cc (
        c.in_ok-push.ensures,
        c.other_side.ensures,
        c.in_ok-payload.ensures.same,
        c.reply_item-answer.ensures,
      ));
}
