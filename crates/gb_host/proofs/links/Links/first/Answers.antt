-- The first has a place, or there is none.
use Rattle.std.proofs.Common.{List, sym, ap, subst, get_or}
use Rattle.gb_host.proofs.LinksThere.{found-none, found-one}
use Rattle.gb_host.specs.LinkList.{LinkList}
use Rattle.gb_host.specs.Places.{AllRise}
use Rattle.gb_host.specs.Sought.{passes}
use Rattle.gb_host.specs.declared.places.Place.{Place}
use Rattle.gb_host.proofs.links.Links.first.Goals as goal

pub returns-in_err-place : goal.returns-in_err-place
returns-in_err-place c =
    found-none (passes c.args.sought) c.as_slice-places.result.now c.self.inside.places.items
    c.args.self.now.items c.place.result c.from_residual.result c.as_slice-places.ensures.value
    (ap (λ (x : LinkList). x.items) c.self.view_is)
    (c.place.ensures.first (λ says. subst AllRise (sym c.as_slice-places.ensures.value)
    (c.self.invariant says))) c.in_err-place.was c.from_residual.ensures

pub returns : goal.returns
returns c =
    found-one (passes c.args.sought) c.as_slice-places.result.now c.self.inside.places.items
    c.args.self.now.items c.place.result c.in_ok-place.place _ _ c.as_slice-places.ensures.value
    (ap (λ (x : LinkList). x.items) c.self.view_is)
    (c.place.ensures.first (λ says. subst AllRise (sym c.as_slice-places.ensures.value)
    (c.self.invariant says))) c.in_ok-place.was
    (ap (λ (ks : List Place). (get_or {A = Place} ks c.in_ok-place.place _).link)
    c.as_slice-places.ensures.value)
