-- The ends that are marked, with how many wait there, are those of the connections.
use Rattle.std.proofs.Common.{◌++◌, ap, append-nil, map, subst, sym, ◌∙◌}
use Rattle.std.proofs.lemmas.List.{drop_all}
use Rattle.std.specs.List.Sorted.{IsStrictlySortedBy}
use Rattle.gb_bus.proofs.Ordered.{agree-ordered, ordered}
use Rattle.gb_bus.proofs.Waits.{waiting-is}
use Rattle.gb_bus.specs.Overview.{waiting_at, waiting_in}
use Rattle.gb_switch.specs.Places.{end_cmp}
use Rattle.gb_bus.proofs.connections.Connections.waiting.Goals as goal

pub returns : goal.returns
returns c =
    sym (append-nil c.loop-at.waiting)
    ∙ ap (λ ends. c.loop-at.waiting ++ map (waiting_at c.args.self.now) ends)
    (sym (drop_all c.loop-at.at-index c.items-at-items.result.now c.loop-at-test.false))
    ∙ c.loop-at.invariant
    ∙ ap (map (waiting_at c.args.self.now)) (c.items-at-items.ensures ∙ c.in_ok-ends.ensures.ends)
    ∙ ap (λ xs. map (waiting_at xs) c.self.inside.waiting) (sym c.self.view_is)
    ∙ waiting-is (ordered c.self.inside.live.map) c.self.inside.ends c.self.inside.waiting
    (agree-ordered c.self.invariant.maps)
    (subst (IsStrictlySortedBy end_cmp) c.in_ok-ends.ensures.ends c.in_ok-ends.ensures.sorted)
    ∙ ap waiting_in c.self.view_is
