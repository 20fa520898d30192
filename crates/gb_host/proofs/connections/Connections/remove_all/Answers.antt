-- The connections with the interface's numbers leave, and what is kept is right for the others.
use Rattle.std.proofs.Common.{◌≡◌, ◌==◌, ◌∙◌}
use Rattle.gb_host.proofs.Grouped.{groups-all}
use Rattle.gb_host.proofs.Indexed.{indexed-left, indexed-unknown}
use Rattle.gb_machine.specs.Lists.{without}
use Rattle.gb_host.proofs.connections.Connections.remove_all.Goals as goal

pub invariant_of-self : goal.invariant_of-self
invariant_of-self c =
    indexed-unknown c.leave_of.new.cports c.self.inside.ends c.self.inside.numbers
    c.self.inside.awaited c.self.inside.known c.leave_of.new.links.items c.if-not-self.true
    (c.leave_of.ensures.counted c.self.invariant.counted)

pub invariant_of-self-2 : goal.invariant_of-self-2
invariant_of-self-2 c =
    let ls = c.self.inside.links.items in
    let ms = c.leave_all.new.links.items in
    let says = c.if-not-self.false in
    let rises = c.self.invariant.rises says in
    let grouped = c.self.invariant.grouped says in
    let e : ms ≡ without (λ l. l.intf == c.args.intf) ls =
    c.leave_all.ensures.left (λ l. l.intf == c.args.intf) rises
    (c.of-numbers.ensures.numbers ∙ grouped c.args.intf) in
    indexed-left c.leave_all.new.cports c.leave_all.new.ends c.clear.new.self
    c.leave_all.new.awaited c.self.inside.known (λ l. l.intf == c.args.intf) ls ms e rises
    (c.leave_all.ensures.counted rises c.self.invariant.counted)
    (c.leave_all.ensures.named rises (c.self.invariant.named says))
    (groups-all c.args.intf c.self.inside.numbers c.clear.new.self ls ms e c.clear.ensures grouped)
    (c.leave_all.ensures.awaited rises (c.self.invariant.waiting says))
