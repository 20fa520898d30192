use Rattle.std.proofs.Common.{arith}
use Rattle.gbus.proofs.Limits.{cut_long, long_read, read-more}
use Rattle.gbus.proofs.input.read_all.Goals as goal

pub returns-clause-bytes : goal.returns-clause-bytes
returns-clause-bytes g c =
    cut_long _ _ _ _ c.loop-piece.invariant.read (omega arith) c.truncate.ensures.items

pub returns-clause-input : goal.returns-clause-input
returns-clause-input g c =
    long_read _ _ _ (cut_long _ _ _ _ c.loop-piece.invariant.read
    (omega arith) c.truncate.ensures.items)

pub returns-in_err-add-clause-limit :
    goal.returns-in_err-add-clause-limit
returns-in_err-add-clause-limit g c =
    read-more _ _ _ _ _ c.in_ok-n.n c.loop-piece.invariant.read c.in_ok-n.ensures.bytes.0
    (omega arith)
    (omega (arith, c.in_ok-n.ensures.bound.0, c.read.auto.buf, c.loop-piece.invariant.room))
