use Rattle.std.proofs.Common.{◌∙◌}
use Rattle.gb_desk.proofs.Cuts.{front_is}
use Rattle.gb_desk.proofs.journal.add_copies.Goals as goal

pub returns-in_err-copy-clause-front : goal.returns-in_err-copy-clause-front
returns-in_err-copy-clause-front c = front_is _ _ _ c.loop-entry.invariant
