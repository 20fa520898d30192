-- Answers are read by the protocol of the connection that they come on: the application processor
-- knows it where the connection is one of its own, and on the supervisory controller's there is
-- nothing to read.
use Rattle.std.proofs.Common.{ap, subst, sym, [], ◌∙◌}
use Rattle.gb_formats.specs.Bridges.{reading_of}
use Rattle.gb_machine.specs.{Bus.Bus, Bus.Connection, Host.Host, Host.link_of, Members.IsIn}
use Rattle.gb_laws.proofs.links.Links.{IsKnown, leaving, linked, supervisory}
use Rattle.gb_laws.proofs.{links.LinkFrom.Linked, links.LinkLists.found-link}
use Rattle.gb_laws.proofs.{marks.MarkTakes.no-link-one}
use Rattle.gb_laws.specs.Readings.{IsReadBy}

pub read-by : {b : Bus} {h : Host} (c : Connection) → Linked b h [] → IsIn c b.connections
    → IsReadBy (link_of c.number h) c.protocol
read-by {b} {h} c f live = by (f.known c live)
  where
    by : IsKnown c h.links [] → IsReadBy (link_of c.number h) c.protocol
    by (supervisory one) =
        subst (λ o. IsReadBy o c.protocol) (sym (ap (λ k. link_of k h) one
        ∙ no-link-one b h.links (λ l i. (f.host.links.numbered l i).from_two)))
        (λ kind payload. ap (λ p. reading_of p kind payload) (f.svc c live one).protocol)
    by (linked l i of) =
        subst (λ o. IsReadBy o c.protocol)
        (sym (ap (λ k. link_of k h) of.number ∙ found-link h.links l f.host.links.rise i))
        of.protocol
    by (leaving i) = absurd i
