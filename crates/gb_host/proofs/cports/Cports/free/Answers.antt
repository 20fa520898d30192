-- The least that none has is the first that no connection has.
use Rattle.std.proofs.Common.{arith}
use Rattle.gb_host.proofs.Counts.{least-free, least-none}
use Rattle.gb_host.proofs.cports.Cports.free.Goals as goal

pub returns-then-self-lt-CPORTS_END : goal.returns-then-self-lt-CPORTS_END
returns-then-self-lt-CPORTS_END c = λ ls counted.
    least-free c.args.self.now ls counted c.if-self-lt-CPORTS_END.true

pub returns-else-self-lt-CPORTS_END : goal.returns-else-self-lt-CPORTS_END
returns-else-self-lt-CPORTS_END c = λ ls counted.
    let over = c.if-self-lt-CPORTS_END.false in
    least-none c.args.self.now ls counted (omega (arith, over))
