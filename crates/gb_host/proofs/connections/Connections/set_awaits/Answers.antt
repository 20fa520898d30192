-- The first connection at the far end waits for something else, and what is kept is right for it.
use Rattle.std.proofs.Common.{◌≡◌, ap, ◌∙◌, subst}
use Rattle.gb_host.proofs.Indexed.{indexed-changed}
use Rattle.gb_host.proofs.Named.{changed-nowhere, changed-numbered}
use Rattle.gb_host.specs.Changes.{link_awaits}
use Rattle.gb_host.specs.LinkList.{LinkList}
use Rattle.gb_host.specs.declared.links.LinkChange.TheVariants as link
use Rattle.gb_machine.specs.Host.{is_link}
use Rattle.gb_machine.specs.Lists.{at_first}
use Rattle.gb_host.proofs.connections.Connections.set_awaits.Goals as goal

pub invariant_of-self : goal.invariant_of-self
invariant_of-self c =
    let says = c.if-not-self.true in
    indexed-changed c.self.inside.cports c.self.inside.ends c.self.inside.numbers
    c.self.inside.awaited c.self.inside.awaited c.self.inside.known c.self.inside.known
    (is_link c.args.intf c.args.cport) (link.Awaits c.args.awaits) c.self.inside.links.items
    c.change_at.new.self.items c.change_at.ensures (λ known. known) (λ known. absurd cc)
    c.self.invariant

pub invariant_of-self-in-Some : goal.invariant_of-self-in-Some
invariant_of-self-in-Some c =
    let test = is_link c.args.intf c.args.cport in
    let ls = c.self.inside.links.items in
    let ms = c.await_other-self-inside.new.links.items in
    let says = c.if-not-self.false in
    let changed : ms ≡ at_first test (link_awaits c.args.awaits) ls
    = c.await_other-self-inside.ensures.changed
    ∙ changed-numbered test (link_awaits c.args.awaits) ls c.number.result c.in-Some.number
    (c.self.invariant.rises says) (c.number.ensures ls (c.self.invariant.named says))
    c.in-Some.is in
    indexed-changed c.self.inside.cports c.self.inside.ends c.self.inside.numbers
    c.self.inside.awaited c.await_other-self-inside.new.awaited c.self.inside.known
    c.await_other-self-inside.result test (link.Awaits c.args.awaits) ls ms changed (λ known. says)
    (λ known. c.await_other-self-inside.ensures.awaited known (c.self.invariant.waiting says))
    c.self.invariant

pub returns-in-Some : goal.returns-in-Some
returns-in-Some c =
    let test = is_link c.args.intf c.args.cport in
    let ls = c.self.inside.links.items in
    let says = c.if-not-self.false in
    c.await_other-self-inside.ensures.changed
    ∙ changed-numbered test (link_awaits c.args.awaits) ls c.number.result c.in-Some.number
    (c.self.invariant.rises says) (c.number.ensures ls (c.self.invariant.named says))
    c.in-Some.is
    ∙ ap (λ (x : LinkList). at_first test (link_awaits c.args.awaits) x.items) c.self.view_is

pub returns-in_default : goal.returns-in_default
returns-in_default c =
    let test = is_link c.args.intf c.args.cport in
    let ls = c.self.inside.links.items in
    let says = c.if-not-self.false in
    subst (λ (x : LinkList). x.items ≡ at_first test (link_awaits c.args.awaits) x.items)
    c.self.view_is (changed-nowhere test (link_awaits c.args.awaits) ls c.number.result
    (c.number.ensures ls (c.self.invariant.named says)) c.in_default.is)
