-- Copies of the first entries were added.
use Rattle.std.proofs.Common.{◌≡◌, ◌++◌, take}
use Rattle.gb_desk.proofs.journal.add_copies.Given as goal

abbrev pub invariant-loop-entry : goal.invariant-loop-entry
invariant-loop-entry l = l.all.items ≡ l.fn.all.items ++ take l.entry-index l.entries
