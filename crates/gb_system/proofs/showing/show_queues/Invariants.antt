-- What was told so far, and the lines of those not looked at yet, is all.
use Rattle.std.proofs.Common.{◌≡◌, ◌++◌, drop, map}
use Rattle.gb_system.specs.Showing.{lines, waiting_shown}
use Rattle.gb_system.proofs.showing.show_queues.Given as goal

abbrev pub invariant-loop-queue : goal.invariant-loop-queue
invariant-loop-queue l =
    l.told ++ lines (map waiting_shown (drop l.queue-index l.waiting))
    ≡ l.fn.told ++ lines (map waiting_shown l.waiting)
