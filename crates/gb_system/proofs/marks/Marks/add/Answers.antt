-- One connection has the mark, and the others have it as before.
use Rattle.std.proofs.Common.{true, subst}
use Rattle.gb_system.proofs.HoldMarks.{marks}
use Rattle.gb_system.specs.Held.{MarksAs}
use Rattle.gb_system.proofs.marks.Marks.add.Goals as goal

pub returns : goal.returns
returns c =
    subst (λ old. MarksAs old c.insert.new.self.keys c.args.k true) c.self.view_is
    (marks c.self.inside.marked.keys c.insert.new.self.keys c.args.k true
    c.in_ok-insert.ensures.updates.1 c.in_ok-insert.ensures.updates.2)
