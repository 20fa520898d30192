-- The first is gone, if there is one.
use Rattle.std.proofs.Common.{◌<◌, false, length, slice_set, rules, refl, sym, ap, subst}
use Rattle.gb_host.proofs.LinksThere.{found-none, found-one, rises-put, taken-one}
use Rattle.gb_host.specs.LinkList.{LinkList}
use Rattle.gb_host.specs.Places.{AllRise}
use Rattle.gb_host.specs.Sought.{passes}
use Rattle.gb_host.specs.declared.places.Place.{Place}
use Rattle.gb_host.proofs.links.Links.leave.Goals as goal

pub returns-in_err-place-clause-link : goal.returns-in_err-place-clause-link
returns-in_err-place-clause-link c =
    found-none (passes c.args.sought) c.as_slice.result.now c.self.inside.places.items
    c.args.self.now.items c.place.result c.from_residual.result c.as_slice.ensures.value
    (ap (λ (x : LinkList). x.items) c.self.view_is)
    (c.place.ensures.first (λ says. subst AllRise (sym c.as_slice.ensures.value)
    (c.self.invariant says))) c.in_err-place.was c.from_residual.ensures

pub returns-clause-link : goal.returns-clause-link
returns-clause-link c =
    found-one (passes c.args.sought) c.as_slice.result.now c.self.inside.places.items
    c.args.self.now.items c.place.result c.in_ok-place.place c.index.result.now
    c.index.result.now.link c.as_slice.ensures.value
    (ap (λ (x : LinkList). x.items) c.self.view_is)
    (c.place.ensures.first (λ says. subst AllRise (sym c.as_slice.ensures.value)
    (c.self.invariant says))) c.in_ok-place.was (ap (λ (h : Place). h.link) c.index.ensures)

pub returns-clause-out : goal.returns-clause-out
returns-clause-out c =
    taken-one (passes c.args.sought) c.as_slice.result.now c.self.inside.places.items
    (slice_set c.self.inside.places.items c.in_ok-place.place
    (record { link = c.index.result.now.link; there = false })) c.args.self.now.items c.place.result
    c.in_ok-place.place c.index.result.now
    (record { link = c.index.result.now.link; there = false }) c.index.result.now.link
    c.as_slice.ensures.value
    (ap (λ (x : LinkList). x.items) c.self.view_is)
    (c.place.ensures.first (λ says. subst AllRise (sym c.as_slice.ensures.value)
    (c.self.invariant says))) c.in_ok-place.was (ap (λ (h : Place). h.link) c.index.ensures)
    refl refl

pub invariant_of-self : goal.invariant_of-self
invariant_of-self c = λ says.
    let hs = c.self.inside.places.items in
    let within : c.in_ok-place.place < length hs = search rules in
    let h : Place = record { link = c.index.result.now.link; there = false } in
    rises-put hs (slice_set hs c.in_ok-place.place h) c.in_ok-place.place c.index.result.now h
    within refl
    (ap (λ (h : Place). h.link.connection) c.index.ensures) (c.self.invariant says)
