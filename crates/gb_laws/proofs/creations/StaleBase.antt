-- What the facts on requests for connections that are known no more stand on.
use Rattle.std.proofs.Common.{ap, arith, length, length-append, refl, subst, sym, ℕ, ⊎_elim, []}
use Rattle.std.proofs.Common.{◌++◌, ◌∙◌, ◌∷◌, ◌≡◌}
use Rattle.gb_base.specs.declared.end.End.{End}
use Rattle.gb_base.specs.declared.event.Event.TheVariants as event
use Rattle.gb_base.specs.declared.host_event.HostEvent.{HostEvent}
use Rattle.gb_machine.specs.Bus.{Bus, Place, Request, place_of}
use Rattle.gb_machine.specs.{Incoming.Incoming, Ports.level_of, Runs.Moment, Sending.requested}
use Rattle.gb_invariants.proofs.{Awaiting.same-some, BusChanges.KeepsRequests, Selves.ap-no-far}
use Rattle.gb_laws.proofs.points.PointParts.{Basis, IsNoticed, Point}
use Rattle.gb_laws.proofs.points.Points.{Change, IsOfSvc, IsServing, PortsFrom, acts_asked}
use Rattle.gb_laws.proofs.points.Points.{as_before}
use Rattle.gb_laws.proofs.points.Points.{asks, changed, loses_route, names, others, served}
use Rattle.gb_laws.proofs.{points.Awaited.awaited-rest, enumerations.AwaitsOwn.WaitsOwn}
use Rattle.gb_laws.proofs.{enumerations.AwaitsOwn.own-kept}
use Rattle.gb_laws.proofs.{points.ChangeBuses.keeps-requests, enumerations.Enums.AreStarts}
use Rattle.gb_laws.proofs.{enumerations.Enums.enums}
use Rattle.gb_laws.proofs.{links.LinkKept.InsertsAbsent, links.LinkKept.LinkedAt}
use Rattle.gb_laws.proofs.{links.LinkRuns.there_law}
use Rattle.gb_laws.proofs.{creations.PairsKept.PairsAt, creations.PairsKept.pairs-kept}
use Rattle.gb_laws.proofs.{creations.RememberedLive.RemembersSince}
use Rattle.gb_laws.proofs.{creations.RememberedLive.since-kept, creations.Remembering.RemembersAt}
use Rattle.gb_laws.proofs.{creations.Remembering.remembers-kept, creations.Stale.starts-moved}
use Rattle.gb_laws.proofs.{svc.SvcMoves.FarMoves}
use Rattle.gb_laws.proofs.{svc.SvcMoves.far-moves, svc.SvcOrder.SvcOrder, svc.SvcOrder.order-kept}
use Rattle.gb_laws.proofs.{svc.SvcThere.There}

-- what is known at a point, whatever is stale
pub record StaleBase (m : Moment) (a : Point) : Type 0 where
  pub basis : Basis a
  pub links : LinkedAt a
  pub there : There a.state.bus
  pub remembers : RemembersAt a
  pub since : RemembersSince m a
  pub pairs : PairsAt a
  pub order : SvcOrder a.state.bus
  pub own : WaitsOwn a

pub base-kept : (m : Moment) → InsertsAbsent m → (a : Point) (x : Change m a) → StaleBase m a
    → StaleBase m (changed m a x)
base-kept m absent a x h =
    let known = (there_law m absent).kept a x ((h.basis, h.links), h.there) in record {
      basis = known.0.0;
      links = known.0.1;
      there = known.1;
      remembers = remembers-kept m a x h.remembers;
      since = since-kept m absent a x h.basis h.links h.remembers h.since;
      pairs = pairs-kept m a x h.links h.remembers h.pairs;
      order = order-kept a h.basis (far-moves m x h.basis h.links h.there) h.order;
      own = own-kept m a x h.links h.own;
    }

-- ---- where a removal is handled

-- Where something is told to be handled at a moment, levels stay, and only starts wait still while
-- no request is made.
abbrev pub NoticedStill : Moment → ℕ → Point → Type 0
NoticedStill m i a = (e : HostEvent) → IsNoticed m e
    → (level_of i a.state.ports ≡ level_of i m.before.ports)
    × (a.state.bus.requests ≡ m.before.bus.requests → AreStarts (enums i m.before.bus)
    → AreStarts (enums i a.state.bus))

noticed-on : (m : Moment) (i : ℕ) (a b : Point) → Basis a → FarMoves a.state.bus b.state.bus
    → KeepsRequests a.state.bus b.state.bus → b.state.bus.requests ≡ a.state.bus.requests
    → b.state.ports ≡ a.state.ports → NoticedStill m i a → NoticedStill m i b
noticed-on m i a b basis moves keeps same ports h e n = (
  ap (level_of i) ports ∙ (h e n).0,
  λ made all. starts-moved i a basis moves keeps same ((h e n).1 (sym same ∙ made) all),
)

-- one was made
noticed-sent : (m : Moment) (i : ℕ) (a b : Point) (r : Request) → RemembersSince m a
    → b.state.bus.requests ≡ a.state.bus.requests ++ r ∷ [] → b.state.ports ≡ a.state.ports
    → NoticedStill m i a → NoticedStill m i b
noticed-sent m i a b r since more ports h e n = (
  ap (level_of i) ports ∙ (h e n).0,
  λ made all.
      let low = since.more in
      let grown = ap length (sym made ∙ more) in
      let count = length-append a.state.bus.requests (r ∷ []) in
      absurd (omega (arith, low, grown, count)),
)

pub noticed-kept : (m : Moment) (i : ℕ) (a : Point) (x : Change m a) → StaleBase m a
    → NoticedStill m i a → NoticedStill m i (changed m a x)
noticed-kept m i a (asks d c label free live drawn who) f h =
    noticed-sent m i a (changed m a (asks d c label free live drawn who)) (requested d label)
    f.since refl refl h
noticed-kept m i a (names name d c label free live drawn host) f h =
    noticed-sent m i a (changed m a (names name d c label free live drawn host))
    (requested d label) f.since refl refl h
noticed-kept m i a (acts_asked q n rest is) f h =
    noticed-on m i a (changed m a (acts_asked q n rest is)) f.basis
    (far-moves m (acts_asked q n rest is) f.basis f.links f.there)
    (keeps-requests m a (acts_asked q n rest is))
    (ap (λ (b : Bus). b.requests) (awaited-rest q.purpose n).bus) (awaited-rest q.purpose n).ports h
noticed-kept m i a (others booted marks ports modules same) f h = λ e n.
    (⊎_elim (λ s. still e n s.1) (λ of. absurd (other n of.0)) same.0 ∙ (h e n).0, (h e n).1)
  where
    other : {e : HostEvent} → IsNoticed m e → IsOfSvc m.event → ⊥
    other n of = subst IsOfSvc n.event of

    apart : {e : HostEvent} {q : Incoming} → IsNoticed m e → IsServing m a.state q → ⊥
    apart n w =
        let same = same-deliver n.at w.at (sym n.event ∙ w.event) in
        let place = same-some n.place w.place (sym n.named
        ∙ ap (λ e. place_of e m.before.bus.connections) same ∙ w.named) in
        ap-no-far (sym n.side ∙ ap (λ (p : Place). p.side) place ∙ w.far)
      where
        same-deliver : (x y : End) → event.Deliver x ≡ event.Deliver y → x ≡ y
        same-deliver x y e = cc

    still : (e : HostEvent) → IsNoticed m e → PortsFrom m a.state ports
        → level_of i ports ≡ level_of i a.state.ports
    still e n (as_before same) = ap (level_of i) same
    still e n (served q w same) = absurd (apart n w)
    still e n (loses_route q j w is same none) = absurd (apart n w)
noticed-kept m i a x f h =
    noticed-on m i a (changed m a x) f.basis (far-moves m x f.basis f.links f.there)
    (keeps-requests m a x) refl refl h
