-- The least so far and the deadlines not looked at give the least of all.
use Rattle.std.proofs.Common.{◌≡◌, None}
use Rattle.gb_bus.proofs.SlotDues.{earliest-first, least-from}
use Rattle.gb_bus.proofs.slots.Slots.first_due.Given as goal

abbrev pub invariant-loop-deadline : goal.invariant-loop-deadline
invariant-loop-deadline l =
    (goal.iterator-loop-deadline).can_next l.deadline-iterator
    × (goal.iterator-loop-deadline).is_finite l.deadline-iterator
    × (least-from l.now l.least (earliest-first l.deadline-iterator.iter)
    ≡ least-from l.now None (earliest-first l.initial.deadline-iterator.iter))
