-- Numbers rise.
use Rattle.gb_ops.proofs.Placed.{ordered}
use Rattle.gb_ops.proofs.open_list.OpenList.numbers.Goals as goal

pub returns-in_err-numbers-clause-ordered : goal.returns-in_err-numbers-clause-ordered
returns-in_err-numbers-clause-ordered c =
    ordered c.self.inside.places.items c.args.self.now c.self.view_is c.self.invariant.rises

pub returns-clause-ordered : goal.returns-clause-ordered
returns-clause-ordered c =
    ordered c.self.inside.places.items c.args.self.now c.self.view_is c.self.invariant.rises
