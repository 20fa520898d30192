-- The numbers found and the deadlines not looked at give all.
use Rattle.std.proofs.Common.{◌≡◌, []}
use Rattle.gb_bus.proofs.SlotDeadlines.{Walked}
use Rattle.gb_bus.proofs.SlotDues.{due-keys, earliest-first}
use Rattle.gb_bus.proofs.slots.Slots.due_early.Given as goal
use Rattle.gb_bus.specs.Keeping.{time_of}

abbrev pub invariant-loop-deadline : goal.invariant-loop-deadline
invariant-loop-deadline l =
    (goal.iterator-loop-deadline).can_next l.deadline-iterator
    × (goal.iterator-loop-deadline).is_finite l.deadline-iterator
    × (due-keys l.now l.found.keys (earliest-first l.deadline-iterator.iter)
    ≡ due-keys l.now [] (earliest-first l.initial.deadline-iterator.iter))

abbrev pub invariant-loop-n : goal.invariant-loop-n
invariant-loop-n l =
    Walked (time_of l.self-inside.slots l.self-inside.places) l.self-inside.deadlines l.now l.n
    l.found.keys
