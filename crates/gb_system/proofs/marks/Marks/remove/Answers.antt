-- One connection has no mark, and the others have it as before.
use Rattle.std.proofs.Common.{false, subst}
use Rattle.gb_system.proofs.HoldMarks.{marks}
use Rattle.gb_system.specs.Held.{MarksAs}
use Rattle.gb_system.proofs.marks.Marks.remove.Goals as goal

pub returns : goal.returns
returns c =
    subst (λ old. MarksAs old c.remove.new.self.keys c.args.k false) c.self.view_is
    (marks c.self.inside.marked.keys c.remove.new.self.keys c.args.k false
    c.remove.ensures.updates.1 c.remove.ensures.updates.2)
