-- What closes the rest closes all.
use Rattle.std.proofs.Common.{[], drop}
use Rattle.gb_bus.proofs.slots.Slots.close.Given as goal
use Rattle.gb_bus.specs.Slots.{Closes, SlotsKept}

abbrev pub invariant-loop-n : goal.invariant-loop-n
invariant-loop-n l =
    (c : SlotsKept) → Closes (drop l.n-index l.unended) l.late l.self c
    → Closes l.unended l.late l.fn.self c

abbrev pub invariant-loop-n-2 : goal.invariant-loop-n-2
invariant-loop-n-2 l =
    (c : SlotsKept) → Closes [] (drop l.n-index l.late) l.self c
    → Closes l.unended l.late l.fn.self c
