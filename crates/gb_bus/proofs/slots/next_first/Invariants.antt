-- None is open from the first on so far.
use Rattle.std.proofs.Common.{◌≡◌, ◌<◌, ◌≤◌, ℕ, None}
use Rattle.gb_bus.proofs.slots.next_first.Given as goal
use Rattle.gb_bus.specs.Keeping.{time_of}

abbrev pub invariant-loop-n : goal.invariant-loop-n
invariant-loop-n l =
    (m : ℕ) → l.first ≤ m → m < l.n → time_of l.slots l.places m ≡ None
