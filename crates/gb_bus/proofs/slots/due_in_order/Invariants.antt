-- Those below the number that came are found, in order.
use Rattle.gb_bus.proofs.SlotDeadlines.{InOrder}
use Rattle.gb_bus.proofs.slots.due_in_order.Given as goal
use Rattle.gb_bus.specs.Keeping.{time_of}

abbrev pub invariant-loop-n : goal.invariant-loop-n
invariant-loop-n l = InOrder (time_of l.slots l.places) l.deadlines l.now l.n l.due
