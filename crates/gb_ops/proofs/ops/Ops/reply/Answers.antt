-- The open request that had the identifier is over.
use Rattle.std.proofs.Common.{subst}
use Rattle.gb_ops.proofs.Changing.{answered, answered_kept, replies}
use Rattle.gb_ops.specs.Tables.{ReleasesAs}
use Rattle.gb_ops.proofs.ops.Ops.reply.Goals as goal

pub invariant_of-self-2 : goal.invariant_of-self-2
invariant_of-self-2 c =
    let released =
    subst (λ r. ReleasesAs c.self.inside.tables c.release.new.self c.args.label r) c.in-Some.is
    c.release.ensures in
    answered_kept c.self.inside.labels c.free.new.self c.self.inside.tables c.leave.new.self
    c.args.label
    c.in-Some.holder.number c.self.invariant
    (answered c.self.inside.labels c.self.inside.tables c.release.new.self c.leave.new.self
    c.args.label
    c.in-Some.holder c.leave.result c.self.invariant released c.if-holder.false c.leave.ensures)
    c.free.ensures

pub returns : goal.returns
returns c =
    let released =
    subst (λ r. ReleasesAs c.self.inside.tables c.release.new.self c.args.label r) c.in-Some.is
    c.release.ensures in
    replies c.self.inside.labels c.free.new.self c.self.inside.tables c.leave.new.self
    c.args.self.now
    c.args.label c.in-Some.holder.number c.self.invariant c.self.view_is
    (answered c.self.inside.labels c.self.inside.tables c.release.new.self c.leave.new.self
    c.args.label
    c.in-Some.holder c.leave.result c.self.invariant released c.if-holder.false c.leave.ensures)
    c.free.ensures
