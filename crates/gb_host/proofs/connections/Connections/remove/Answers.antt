-- The connection leaves that is alone at the far end, and what is kept is right for the others.
use Rattle.std.proofs.Common.{◌≡◌, ◌<◌, rules, sym, ap, ◌∙◌, subst}
use Rattle.gb_host.proofs.Grouped.{groups-one}
use Rattle.gb_host.proofs.Indexed.{indexed-left, indexed-unknown}
use Rattle.gb_host.proofs.Leaving.{end-leaves, end-stays}
use Rattle.gb_host.specs.LinkList.{LinkList}
use Rattle.gb_host.proofs.connections.Connections.remove.Goals as goal
use Rattle.gb_machine.specs.Host.{is_link}
use Rattle.gb_machine.specs.Lists.{without}

pub invariant_of-self : goal.invariant_of-self
invariant_of-self c =
    indexed-unknown c.leave_at.new.cports c.self.inside.ends c.self.inside.numbers
    c.self.inside.awaited c.self.inside.known c.leave_at.new.links.items c.if-not-self.true
    (c.leave_at.ensures.counted c.self.invariant.counted)

pub invariant_of-self-in-Some : goal.invariant_of-self-in-Some
invariant_of-self-in-Some c =
    let ls = c.self.inside.links.items in
    let ms = c.leave.new.links.items in
    let says = c.if-not-self.false in
    let rises = c.self.invariant.rises says in
    let named = c.self.invariant.named says in
    let low : c.args.cport < 65536 = search rules in
    let left = c.leave.ensures.left rises in
    let e : ms ≡ without (is_link c.args.intf c.args.cport) ls = left
    ∙ end-leaves c.self.inside.ends c.args.intf c.args.cport c.in-Some.number ls c.number.result low
    rises named (c.number.ensures ls named) c.in-Some.is in
    indexed-left c.leave.new.cports c.leave.new.ends c.remove.new.self c.leave.new.awaited
    c.self.inside.known (is_link c.args.intf c.args.cport) ls ms e rises
    (c.leave.ensures.counted c.self.invariant.counted) (c.leave.ensures.named named)
    (groups-one c.args.intf c.args.cport c.in-Some.number c.self.inside.numbers
    c.remove.new.self ls ms left e c.remove.ensures (c.self.invariant.grouped says))
    (c.leave.ensures.awaited (c.self.invariant.waiting says))

pub returns-in-Some : goal.returns-in-Some
returns-in-Some c =
    let ls = c.self.inside.links.items in
    let says = c.if-not-self.false in
    let rises = c.self.invariant.rises says in
    let named = c.self.invariant.named says in
    let low : c.args.cport < 65536 = search rules in
    c.leave.ensures.left rises
    ∙ end-leaves c.self.inside.ends c.args.intf c.args.cport c.in-Some.number ls c.number.result low
    rises named (c.number.ensures ls named) c.in-Some.is
    ∙ ap (λ (x : LinkList). without (is_link c.args.intf c.args.cport) x.items) c.self.view_is

pub returns-in_default : goal.returns-in_default
returns-in_default c =
    let ls = c.self.inside.links.items in
    let says = c.if-not-self.false in
    let named = c.self.invariant.named says in
    let low : c.args.cport < 65536 = search rules in
    subst (λ (x : LinkList). x.items ≡ without (is_link c.args.intf c.args.cport) x.items)
    c.self.view_is (sym (end-stays c.self.inside.ends c.args.intf c.args.cport ls c.number.result
    low named (c.number.ensures ls named) c.in_default.is))
