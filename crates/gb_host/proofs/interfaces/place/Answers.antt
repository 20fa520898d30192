-- It belongs in front of the first of a greater number, or at the end.
use Rattle.gb_host.proofs.Ordering.{placed, placed-last}
use Rattle.gb_host.proofs.interfaces.place.Goals as goal

pub returns-in-Some-clause-order : goal.returns-in-Some-clause-order
returns-in-Some-clause-order c =
    placed c.args.intf c.args.known.now c.index_above.result c.in-Some.i
    c.index_above.ensures.first c.in-Some.is

pub returns-in-None-clause-order : goal.returns-in-None-clause-order
returns-in-None-clause-order c =
    placed-last c.args.intf c.args.known.now c.index_above.result c.index_above.ensures.first
    c.in-None.is
