-- What the ops so far have and what the others have are what all have.
use Rattle.std.proofs.Common.{drop}
use Rattle.gb_i2c.proofs.Sizes.{Measured}
use Rattle.gb_i2c.proofs.ops.fits.Given as goal

abbrev pub invariant-loop-op : goal.invariant-loop-op
invariant-loop-op l = Measured l.size l.read l.ops (drop l.op-index l.ops)
