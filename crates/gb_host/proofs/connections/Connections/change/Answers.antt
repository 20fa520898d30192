-- The first connection at the far end is changed, and what is kept stays right.
use Rattle.std.proofs.Common.{◌≡◌, ap, ◌∙◌, subst}
use Rattle.gb_host.proofs.Indexed.{indexed-kept}
use Rattle.gb_host.proofs.Named.{changed-nowhere, changed-numbered}
use Rattle.gb_host.specs.Changes.{link_changed}
use Rattle.gb_host.specs.LinkList.{LinkList}
use Rattle.gb_machine.specs.Host.{is_link}
use Rattle.gb_machine.specs.Lists.{at_first}
use Rattle.gb_host.proofs.connections.Connections.change.Goals as goal

pub invariant_of-self : goal.invariant_of-self
invariant_of-self c =
    indexed-kept c.self.inside.cports c.self.inside.ends c.self.inside.numbers
    c.self.inside.awaited c.self.inside.known (is_link c.args.intf c.args.cport) c.args.change
    c.self.inside.links.items c.change_at.new.self.items c.requires c.change_at.ensures
    c.self.invariant

pub invariant_of-self-in-Some : goal.invariant_of-self-in-Some
invariant_of-self-in-Some c =
    let test = is_link c.args.intf c.args.cport in
    let ls = c.self.inside.links.items in
    let ms = c.change_of.new.self.items in
    let says = c.if-not-self.false in
    let changed : ms ≡ at_first test (link_changed c.args.change) ls = c.change_of.ensures.changed
    ∙ changed-numbered test (link_changed c.args.change) ls c.number.result c.in-Some.number
    (c.self.invariant.rises says) (c.number.ensures ls (c.self.invariant.named says))
    c.in-Some.is in
    indexed-kept c.self.inside.cports c.self.inside.ends c.self.inside.numbers
    c.self.inside.awaited c.self.inside.known test c.args.change ls ms c.requires changed
    c.self.invariant

pub returns-in-Some : goal.returns-in-Some
returns-in-Some c =
    let test = is_link c.args.intf c.args.cport in
    let ls = c.self.inside.links.items in
    let says = c.if-not-self.false in
    c.change_of.ensures.changed
    ∙ changed-numbered test (link_changed c.args.change) ls c.number.result c.in-Some.number
    (c.self.invariant.rises says) (c.number.ensures ls (c.self.invariant.named says))
    c.in-Some.is
    ∙ ap (λ (x : LinkList). at_first test (link_changed c.args.change) x.items) c.self.view_is

pub returns-in_default : goal.returns-in_default
returns-in_default c =
    let test = is_link c.args.intf c.args.cport in
    let ls = c.self.inside.links.items in
    let says = c.if-not-self.false in
    subst (λ (x : LinkList). x.items ≡ at_first test (link_changed c.args.change) x.items)
    c.self.view_is (changed-nowhere test (link_changed c.args.change) ls c.number.result
    (c.number.ensures ls (c.self.invariant.named says)) c.in_default.is)
