-- No identifier is left where none comes next.
use Rattle.std.proofs.Common.{◌∙◌}
use Rattle.gb_ops.proofs.Changing.{spent}
use Rattle.gb_ops.proofs.ops.Ops.is_spent.Goals as goal

pub returns : goal.returns
returns c =
    c.is_err.ensures.value
    ∙ spent c.self.inside.labels c.self.inside.tables c.args.self.now c.next.result
    c.self.invariant c.self.view_is c.next.ensures.step
