-- Numbers rise.
use Rattle.std.proofs.Common.{refl}
use Rattle.gb_ops.proofs.Placed.{ordered}
use Rattle.gb_ops.proofs.open_list.OpenList.remove.Goals as goal

pub returns-in_err-request-clause-ordered : goal.returns-in_err-request-clause-ordered
returns-in_err-request-clause-ordered c =
    ordered c.leave.new.places.items _ refl c.leave.ensures.order.rises

pub returns-then-len-max-clause-ordered : goal.returns-then-len-max-clause-ordered
returns-then-len-max-clause-ordered c =
    ordered c.compact.new.places.items _ refl c.compact.ensures.order.rises

pub returns-else-len-max-clause-ordered : goal.returns-else-len-max-clause-ordered
returns-else-len-max-clause-ordered c =
    ordered c.leave.new.places.items _ refl c.leave.ensures.order.rises
