-- The least open request is over, and its identifier is free.
use Rattle.gb_ops.proofs.Changing.{closes, ended_kept, released}
use Rattle.gb_ops.proofs.ops.Ops.close_one.Goals as goal

pub invariant_of-self-in-Some-leave : goal.invariant_of-self-in-Some-leave
invariant_of-self-in-Some-leave c =
    ended_kept c.self.inside.labels c.free.new.self c.self.inside.tables c.release.new.self
    c.in-Some.n
    c.in-Some-leave.pending c.self.invariant
    (released c.self.inside.tables c.leave.new.self c.release.new.self c.in-Some.n
    c.in-Some-leave.pending c.release.result c.in-Some-leave.ensures c.release.ensures)
    c.free.ensures

pub returns-in-Some-leave : goal.returns-in-Some-leave
returns-in-Some-leave c =
    closes c.self.inside.labels c.free.new.self c.self.inside.tables c.release.new.self
    c.args.self.now
    c.in-Some.n c.in-Some-leave.pending c.self.invariant c.self.view_is c.in-Some.ensures
    (released c.self.inside.tables c.leave.new.self c.release.new.self c.in-Some.n
    c.in-Some-leave.pending c.release.result c.in-Some-leave.ensures c.release.ensures)
    c.free.ensures
