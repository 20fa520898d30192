use Rattle.std.specs.Prelude.{replicate}
use Rattle.gb_desk.proofs.Opening.{begins, first_words}
use Rattle.gb_desk.proofs.desk.Desk.new.Goals as goal

pub new-requires-3 : goal.new-requires-3
new-requires-3 c =
    rw (
      c.of-about.ensures,
      c.in_ok-push.ensures.items,
      c.new-slots.ensures.items,
      c.new.ensures,
      c.new-2.ensures,
    )
    (begins c.args.system (replicate 257 0) (first_words 257).0 (first_words 257).1)
