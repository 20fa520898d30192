-- Numbers rise.
use Rattle.gb_ops.proofs.Placed.{ordered}
use Rattle.gb_ops.proofs.open_list.OpenList.first_due.Goals as goal

pub returns-clause-ordered : goal.returns-clause-ordered
returns-clause-ordered c =
    ordered c.self.inside.places.items c.args.self.now c.self.view_is c.self.invariant.rises
