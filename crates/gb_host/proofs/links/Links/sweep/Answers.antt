-- The connections that are there stay.
use Rattle.std.proofs.Common.{◌≡◌, rules, ap, ◌∙◌}
use Rattle.std.proofs.lemmas.Fn.{filter_same}
use Rattle.std.specs.List.{filter}
use Rattle.gb_host.proofs.LinksThere.{rises-filter, there-swept}
use Rattle.gb_host.specs.LinkList.{LinkList}
use Rattle.gb_host.specs.Places.{there_in}
use Rattle.gb_host.proofs.links.Links.sweep.Goals as goal

pub returns : goal.returns
returns c =
    let hs = c.self.inside.places.items in
    let kept : c.retain.new.self.items ≡ filter (λ h. h.there) hs =
    filter_same _ (λ h. h.there) _ (λ x b f' k. search rules) _ _ c.retain.ensures.filtered in
    ap there_in kept ∙ there-swept hs
    ∙ ap (λ (x : LinkList). x.items) c.self.view_is

pub invariant_of-self : goal.invariant_of-self
invariant_of-self c =
    let hs = c.self.inside.places.items in
    let kept : c.retain.new.self.items ≡ filter (λ h. h.there) hs =
    filter_same _ (λ h. h.there) _ (λ x b f' k. search rules) _ _ c.retain.ensures.filtered in
    λ says. rises-filter _ hs c.retain.new.self.items kept (c.self.invariant says)
