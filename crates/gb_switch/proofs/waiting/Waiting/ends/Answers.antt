-- The first is below the others, which are in order.
use Rattle.std.proofs.Common.{rules, sym, ◌∙◌, subst}
use Rattle.std.specs.List.Sorted.{IsStrictlySortedBy}
use Rattle.gb_switch.proofs.WaitingEnds.{in-order, is-below}
use Rattle.gb_switch.specs.Places.{end_cmp}
use Rattle.gb_switch.proofs.waiting.Waiting.ends.Goals as goal

pub returns-clause-ends : goal.returns-clause-ends
returns-clause-ends c = search rules

pub returns-clause-sorted : goal.returns-clause-sorted
returns-clause-sorted c =
    subst (IsStrictlySortedBy end_cmp) (c.self.view_is ∙ sym (returns-clause-ends c))
    (in-order c.self.inside.first c.self.inside.behind
    (is-below c.self.inside.first c.self.inside.behind c.self.invariant)
    c.in_ok-append_to.ensures.sorted)
