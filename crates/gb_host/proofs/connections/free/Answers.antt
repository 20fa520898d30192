-- The next id is freed, until all are.
use Rattle.gb_host.proofs.ByNumber.{all-forgotten, next-forgotten}
use Rattle.gb_host.proofs.connections.free.Goals as goal

pub loop-number-preserved : goal.loop-number-preserved
loop-number-preserved c =
    next-forgotten c.args.numbers.now c.loop-number.number-index c.loop-number.images
    c.forget.new.self _ c.loop-number-test.true c.forget.ensures c.loop-number.invariant

pub returns : goal.returns
returns c = λ ls e.
    all-forgotten ls c.args.numbers.now c.loop-number.number-index c.args.images.now
    c.loop-number.images e c.loop-number-test.false c.loop-number.invariant
