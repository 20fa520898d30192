-- The ends so far and those that weren't looked at are all.
use Rattle.std.proofs.Common.{◌≡◌, ◌++◌}
use Rattle.gb_switch.proofs.waiting.Behind.append_to.Given as goal

abbrev pub invariant-loop-place : goal.invariant-loop-place
invariant-loop-place l =
    (goal.iterator-loop-place).can_next l.place-iterator
    × (goal.iterator-loop-place).is_finite l.place-iterator
    × (l.ends ++ l.place-iterator ≡ l.fn.ends ++ l.self)
