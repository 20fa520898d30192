-- The connection is counted, known at its far end and of its interface, and in order where the
-- others are.
use Rattle.std.proofs.Common.{◌≡◌, None, rules, sym, ◌∙◌}
use Rattle.gb_host.proofs.Awaiting.{awaited-added}
use Rattle.gb_host.proofs.FarEnds.{on-ok}
use Rattle.gb_host.proofs.Grouped.{groups-added}
use Rattle.gb_host.proofs.Indexed.{indexed-added}
use Rattle.gb_host.proofs.connections.Connections.add.Goals as goal

pub invariant_of-self : goal.invariant_of-self
invariant_of-self c =
    let ls = c.self.inside.links.items in
    let groups = c.self.inside.numbers in
    let groups' = c.add-then-add.new.self in
    indexed-added c.self.inside.cports c.take.new.self c.self.inside.ends c.add-named.new.self
    groups groups' c.self.inside.awaited c.self.inside.known c.rises_to-rises.result
    c.add-named.result c.is_ok-there.result c.is_none.result ls c.add.new.self.items c.args.link
    (c.add.ensures.added c.if-add.true)
    c.self.invariant (c.take.ensures ls c.add.ensures.few) c.rises_to-rises.ensures
    (c.add-named.ensures ls)
    (λ there rises grouped. groups-added groups groups' ls c.args.link rises grouped
    (on-ok c.add-then-add.result c.add-then-add.ensures.added
    (sym c.is_ok-there.ensures.value ∙ there)))
    (λ quiet. let none : c.args.link.awaits ≡ None = search rules in
    awaited-added c.self.inside.awaited ls c.args.link none)
