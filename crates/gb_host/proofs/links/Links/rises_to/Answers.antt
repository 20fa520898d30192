-- The numbers of all places rise to that of the new one.
use Rattle.std.proofs.Common.{true, sym, ap, subst}
use Rattle.gb_host.proofs.LinksThere.{rises-more}
use Rattle.gb_host.specs.LinkList.{LinkList}
use Rattle.gb_host.specs.Places.{AllRise}
use Rattle.gb_host.proofs.links.Links.rises_to.Goals as goal

pub returns-then-self : goal.returns-then-self
returns-then-self c = λ says rises.
    rises-more c.as_slice.result.now c.self.inside.places.items c.args.self.now.items c.args.link
    c.as_slice.ensures.value (ap (λ (x : LinkList). x.items) c.self.view_is)
    (c.rises_to.ensures true says (subst AllRise (sym c.as_slice.ensures.value)
    (c.self.invariant c.if-self.true)))
