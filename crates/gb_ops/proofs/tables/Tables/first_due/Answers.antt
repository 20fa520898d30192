-- The first in order whose deadline came is the least.
use Rattle.std.proofs.Common.{subst, sym}
use Rattle.gb_ops.proofs.Dues.{finds_due}
use Rattle.gb_ops.specs.Finding.{FindsDue}
use Rattle.gb_ops.specs.Tables.{pending_in}
use Rattle.gb_ops.proofs.tables.Tables.first_due.Goals as goal

pub returns : goal.returns
returns c = λ covered.
    subst (λ r. FindsDue (pending_in c.args.self.now) c.args.now r) (sym c.first_due.ensures.due)
    (finds_due c.args.now c.args.self.now.pending c.first_due.ensures.ordered)
