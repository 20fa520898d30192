-- The second is below the others, which are in order.
use Rattle.std.proofs.Common.{subst}
use Rattle.std.specs.List.Sorted.{IsStrictlySortedBy}
use Rattle.gb_switch.proofs.WaitingEnds.{in-order}
use Rattle.gb_switch.specs.Places.{end_cmp}
use Rattle.gb_switch.proofs.waiting.Behind.append_to.Goals as goal

pub returns-clause-sorted : goal.returns-clause-sorted
returns-clause-sorted c =
    subst (IsStrictlySortedBy end_cmp) c.self.view_is
    (in-order c.self.inside.second c.self.inside.others.keys c.self.invariant
    c.into_iter-place-iterator.ensures.into_iter_gives.4)
