-- The place of a connection more is at the end.
use Rattle.std.proofs.Common.{◌<◌, ◌^◌, true, [], ◌∷◌, ◌++◌, length, sym, ap, ◌∙◌, subst, arith}
use Rattle.gb_host.proofs.LinksThere.{rises-added, there-append, there-few}
use Rattle.gb_host.specs.LinkList.{LinkList}
use Rattle.gb_host.specs.Places.{AllRise, there_in}
use Rattle.gb_host.proofs.links.Links.add.Goals as goal

pub returns-clause-added : goal.returns-clause-added
returns-clause-added c = λ says.
    ap there_in (c.push.ensures.added says)
    ∙ there-append c.self.inside.places.items (record { link = c.args.link; there = true } ∷ [])
    ∙ ap (λ (x : LinkList). x.items ++ c.args.link ∷ []) c.self.view_is

pub returns-clause-few : goal.returns-clause-few
returns-clause-few c =
    let few = c.push.ensures.few in
    let most = there-few c.self.inside.places.items in
    let less : length (there_in c.self.inside.places.items) < 2 ^ 63 = omega (arith, few, most) in
    subst (λ (x : LinkList). length x.items < 2 ^ 63) c.self.view_is less

pub invariant_of-self : goal.invariant_of-self
invariant_of-self c =
    rises-added c.self.inside.rising c.rises_to-rises.result c.self.inside.places.items
    c.push.new.places.items (record { link = c.args.link; there = true }) c.push.result
    c.self.invariant
    (λ says rise. subst (λ ks. AllRise (ks ++ record { link = c.args.link; there = true } ∷ []))
    c.as_slice.ensures.value
    (c.rises_to-rises.ensures true says (subst AllRise (sym c.as_slice.ensures.value) rise)))
    c.push.ensures.added c.push.ensures.same
