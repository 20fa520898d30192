use Rattle.std.proofs.Common.{ℕ, List, length, ap, arith, drop_of_length-le}
use Rattle.gb_spi.proofs.Bridged.{is_fitting, is_too_long}
use Rattle.gb_spi.proofs.ops.payload_fits.Goals as goal

pub returns-in_default : goal.returns-in_default
returns-in_default c =
    is_too_long _ c.op-item.result c.loop-op.room c.loop-op.op-index (omega arith) c.op-item.is
    (omega arith) c.loop-op.invariant

pub returns-in_default-checked_sub : goal.returns-in_default-checked_sub
returns-in_default-checked_sub c =
    let long = ap (λ (xs : List ℕ). length xs) c.written.ensures in
    is_too_long _ c.op-item.result c.loop-op.room c.loop-op.op-index (omega arith) c.op-item.is
    (omega (arith, long)) c.loop-op.invariant

pub returns : goal.returns
returns c =
    is_fitting _ _ c.loop-op.room (drop_of_length-le c.args.ops.now (omega arith))
    c.loop-op.invariant
