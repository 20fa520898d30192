-- The next has the next number, until one hasn't.
use Rattle.std.proofs.Common.{sym, ◌∙◌}
use Rattle.gb_module.proofs.Counting.{counted-next, none-counted}
use Rattle.gb_module.proofs.ports.counted_in.Goals as goal

pub loop-i-init : goal.loop-i-init
loop-i-init c = none-counted c.args.ports.now

pub loop-i-preserved : goal.loop-i-preserved
loop-i-preserved c =
    counted-next c.args.ports.now c.index-ports-i.result c.loop-i.i c.index-ports-i.is
    (sym c.number.ensures ∙ sym c.from.ensures ∙ c.if-from-i.false)
    c.loop-i-test.true c.loop-i.invariant
