-- Those with the numbers so far are gone.
use Rattle.std.proofs.Common.{drop}
use Rattle.gb_host.proofs.Leaving.{AreGoing}
use Rattle.gb_host.specs.Indexes.{Rises}
use Rattle.gb_host.proofs.connections.leave_all.Given as goal

abbrev pub invariant-loop-number : goal.invariant-loop-number
invariant-loop-number l =
    Rises l.fn.links.items
    → AreGoing l.fn.cports l.cports l.fn.ends l.ends l.fn.awaited l.awaited l.numbers
    (drop l.number-index l.numbers) l.fn.links.items l.links.items
