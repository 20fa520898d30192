-- The first whose deadline came is the first of those that weren't looked at.
use Rattle.std.proofs.Common.{◌≡◌}
use Rattle.std.specs.VecDeque.Iter.{deque_iter_rest}
use Rattle.gb_ops.specs.Finding.{due_in}
use Rattle.gb_ops.specs.Places.{opened}
use Rattle.gb_ops.proofs.open_list.due_among.Given as goal

abbrev pub invariant-loop-place : goal.invariant-loop-place
invariant-loop-place l =
    (goal.iterator-loop-place).can_next l.place-iterator
    × (goal.iterator-loop-place).is_finite l.place-iterator
    × (due_in l.now (opened (deque_iter_rest l.place-iterator))
    ≡ due_in l.now (opened l.places.items))
