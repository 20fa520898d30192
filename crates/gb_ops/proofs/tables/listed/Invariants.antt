-- The numbers so far and those that weren't looked at are all.
use Rattle.std.proofs.Common.{◌≡◌, ◌++◌}
use Rattle.gb_ops.proofs.tables.listed.Given as goal

abbrev pub invariant-loop-number : goal.invariant-loop-number
invariant-loop-number l =
    (goal.iterator-loop-number).can_next l.number-iterator
    × (goal.iterator-loop-number).is_finite l.number-iterator
    × (l.numbers ++ l.number-iterator ≡ l.initial.number-iterator)
