-- The identifier stays in use, by a request that was given up.
use Rattle.gb_ops.proofs.Changing.{given_up_kept, marked}
use Rattle.gb_ops.proofs.ops.Ops.give_up.Goals as goal

pub invariant_of-self-2 : goal.invariant_of-self-2
invariant_of-self-2 c =
    given_up_kept c.self.inside.labels c.self.inside.tables c.mark.new.self c.args.n
    c.in-Some.pending
    c.self.invariant
    (marked c.self.inside.labels c.self.inside.tables c.leave.new.self c.mark.new.self c.args.n
    c.in-Some.pending c.self.invariant c.in-Some.ensures c.mark.ensures)
