-- The numbers so far and those that weren't looked at are all.
use Rattle.std.proofs.Common.{◌≡◌, ◌++◌}
use Rattle.std.specs.Map.{keys_of}
use Rattle.std.specs.VecDeque.Iter.{deque_iter_rest}
use Rattle.gb_ops.specs.Places.{opened}
use Rattle.gb_ops.proofs.open_list.numbers_in.Given as goal

abbrev pub invariant-loop-place : goal.invariant-loop-place
invariant-loop-place l =
    (goal.iterator-loop-place).can_next l.place-iterator
    × (goal.iterator-loop-place).is_finite l.place-iterator
    × (l.numbers ++ keys_of (opened (deque_iter_rest l.place-iterator))
    ≡ keys_of (opened l.places.items))
