-- Numbers rise before and after.
use Rattle.std.proofs.Common.{refl}
use Rattle.gb_ops.proofs.Placed.{ordered}
use Rattle.gb_ops.proofs.open_list.OpenList.insert.Goals as goal

pub returns-in_err-former-clause-ordered : goal.returns-in_err-former-clause-ordered
returns-in_err-former-clause-ordered c =
    ordered c.enter.new.places.items _ refl c.enter.ensures.order.rises

pub returns-in_err-former-clause-was_ordered : goal.returns-in_err-former-clause-was_ordered
returns-in_err-former-clause-was_ordered c =
    ordered c.self.inside.places.items c.args.self.now c.self.view_is c.self.invariant.rises

pub returns-then-is_none-clause-ordered : goal.returns-then-is_none-clause-ordered
returns-then-is_none-clause-ordered c =
    ordered c.enter.new.places.items _ refl c.enter.ensures.order.rises

pub returns-then-is_none-clause-was_ordered : goal.returns-then-is_none-clause-was_ordered
returns-then-is_none-clause-was_ordered c =
    ordered c.self.inside.places.items c.args.self.now c.self.view_is c.self.invariant.rises

pub returns-else-is_none-clause-ordered : goal.returns-else-is_none-clause-ordered
returns-else-is_none-clause-ordered c =
    ordered c.enter.new.places.items _ refl c.enter.ensures.order.rises

pub returns-else-is_none-clause-was_ordered : goal.returns-else-is_none-clause-was_ordered
returns-else-is_none-clause-was_ordered c =
    ordered c.self.inside.places.items c.args.self.now c.self.view_is c.self.invariant.rises
