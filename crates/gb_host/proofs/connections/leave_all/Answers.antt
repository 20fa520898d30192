-- The next leaves, until all have.
use Rattle.gb_host.proofs.Leaving.{going-all, going-next, going-over}
use Rattle.gb_host.proofs.connections.leave_all.Goals as goal

pub loop-number-init : goal.loop-number-init
loop-number-init c =
    going-all c.args.cports.now c.args.ends.now c.args.awaited.now c.args.numbers.now
    c.args.links.now.items

pub loop-number-preserved : goal.loop-number-preserved
loop-number-preserved c = λ rises.
    going-next c.args.cports.now c.loop-number.cports c.leave.new.cports c.args.ends.now
    c.loop-number.ends c.leave.new.ends c.args.awaited.now c.loop-number.awaited
    c.leave.new.awaited c.args.numbers.now c.loop-number.number-index c.args.links.now.items
    c.loop-number.links.items c.leave.new.links.items c.loop-number-test.true c.leave.ensures.left
    c.leave.ensures.counted c.leave.ensures.named c.leave.ensures.awaited
    (c.loop-number.invariant rises)

pub returns-clause-left : goal.returns-clause-left
returns-clause-left c = λ test rises.
    going-over c.args.cports.now c.loop-number.cports c.args.ends.now c.loop-number.ends
    c.args.awaited.now c.loop-number.awaited c.args.numbers.now c.loop-number.number-index
    c.args.links.now.items c.loop-number.links.items c.loop-number-test.false
    (c.loop-number.invariant rises) test

pub returns-clause-counted : goal.returns-clause-counted
returns-clause-counted c = λ rises. (c.loop-number.invariant rises).counted

pub returns-clause-named : goal.returns-clause-named
returns-clause-named c = λ rises. (c.loop-number.invariant rises).named

pub returns-clause-awaited : goal.returns-clause-awaited
returns-clause-awaited c = λ rises. (c.loop-number.invariant rises).waiting
