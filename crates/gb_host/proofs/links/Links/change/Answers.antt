-- The first is changed, if there is one.
use Rattle.std.proofs.Common.{◌<◌, true, length, slice_set, rules, refl, sym, ap, ◌∙◌, subst}
use Rattle.gb_base.specs.declared.interface.Link.{Link}
use Rattle.gb_host.proofs.Indexed.{number-stays}
use Rattle.gb_host.proofs.LinksThere.{changed-none, changed-one, found-none, found-one, rises-put}
use Rattle.gb_host.specs.Changes.{link_changed}
use Rattle.gb_host.specs.LinkList.{LinkList}
use Rattle.gb_host.specs.Places.{AllRise}
use Rattle.gb_host.specs.Sought.{passes}
use Rattle.gb_host.specs.declared.places.Place.{Place}
use Rattle.gb_host.proofs.links.Links.change.Goals as goal

pub returns-in_err-place-clause-was : goal.returns-in_err-place-clause-was
returns-in_err-place-clause-was c =
    found-none (passes c.args.sought) c.as_slice.result.now c.self.inside.places.items
    c.args.self.now.items c.place.result c.from_residual.result c.as_slice.ensures.value
    (ap (λ (x : LinkList). x.items) c.self.view_is)
    (c.place.ensures.first (λ says. subst AllRise (sym c.as_slice.ensures.value)
    (c.self.invariant says))) c.in_err-place.was c.from_residual.ensures

pub returns-in_err-place-clause-changed : goal.returns-in_err-place-clause-changed
returns-in_err-place-clause-changed c =
    changed-none (passes c.args.sought) (link_changed c.args.change) c.as_slice.result.now
    c.self.inside.places.items c.args.self.now.items c.place.result c.as_slice.ensures.value
    (ap (λ (x : LinkList). x.items) c.self.view_is)
    (c.place.ensures.first (λ says. subst AllRise (sym c.as_slice.ensures.value)
    (c.self.invariant says))) c.in_err-place.was

pub returns-clause-was : goal.returns-clause-was
returns-clause-was c =
    found-one (passes c.args.sought) c.as_slice.result.now c.self.inside.places.items
    c.args.self.now.items c.place.result c.in_ok-place.place c.index.result.now
    c.index.result.now.link c.as_slice.ensures.value
    (ap (λ (x : LinkList). x.items) c.self.view_is)
    (c.place.ensures.first (λ says. subst AllRise (sym c.as_slice.ensures.value)
    (c.self.invariant says))) c.in_ok-place.was (ap (λ (h : Place). h.link) c.index.ensures)

pub returns-clause-changed : goal.returns-clause-changed
returns-clause-changed c =
    changed-one (passes c.args.sought) (link_changed c.args.change) c.as_slice.result.now
    c.self.inside.places.items
    (slice_set c.self.inside.places.items c.in_ok-place.place
    (record { link = c.of.result; there = true })) c.args.self.now.items c.place.result
    c.in_ok-place.place c.index.result.now c.of.result c.as_slice.ensures.value
    (ap (λ (x : LinkList). x.items) c.self.view_is)
    (c.place.ensures.first (λ says. subst AllRise (sym c.as_slice.ensures.value)
    (c.self.invariant says))) c.in_ok-place.was
    (c.of.ensures ∙ ap (λ (h : Place). link_changed c.args.change h.link) c.index.ensures)
    refl

pub invariant_of-self : goal.invariant_of-self
invariant_of-self c = λ says.
    let hs = c.self.inside.places.items in
    let within : c.in_ok-place.place < length hs = search rules in
    let h : Place = record { link = c.of.result; there = true } in
    rises-put hs (slice_set hs c.in_ok-place.place h) c.in_ok-place.place c.index.result.now h
    within refl
    (ap (λ (l : Link). l.connection) c.of.ensures
    ∙ number-stays c.args.change c.index.result.now.link
    ∙ ap (λ (h : Place). h.link.connection) c.index.ensures) (c.self.invariant says)
