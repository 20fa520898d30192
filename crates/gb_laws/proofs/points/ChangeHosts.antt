-- What a single change at a point does to the application processor, and to what it has
-- still to ask.
use Rattle.std.proofs.Common.{List, ap, inl, inr, subst, sym, [], ◌∷◌, ◌≡◌}
use Rattle.gb_machine.specs.{Host.Host, HostServing.host_serves}
use Rattle.gb_machine.specs.{HostServing.with_credits, LineActions.spent, Runs.Moment, Turns.Act}
use Rattle.gb_machine.specs.{Turns.Asking}
use Rattle.gb_invariants.proofs.Lists.{in-front}
use Rattle.gb_laws.proofs.enumerations.AskedWaits.{AsksIn, WaitsFewer, asks-more, asks_in, opens_in}
use Rattle.gb_laws.proofs.enumerations.AskedWaits.{same-waits}
use Rattle.gb_laws.proofs.links.LinkActs.{ServedHost, as_before, awaited-host, awaits-fits}
use Rattle.gb_laws.proofs.links.LinkActs.{host-served}
use Rattle.gb_laws.proofs.links.LinkActs.{unsent-stays, with_images, with_more}
use Rattle.gb_laws.proofs.links.LinkHosts.{Stay, credits-link, same-link, stay-changed, stay-same}
use Rattle.gb_laws.proofs.points.Points.{Change, IsAsking, acts_asked, acts_failed, acts_left}
use Rattle.gb_laws.proofs.points.Points.{acts_made}
use Rattle.gb_laws.proofs.points.Points.{acts_shut, acts_told, asking, changed, opening, serves}
use Rattle.gb_laws.proofs.points.Points.{spends}
use Rattle.gb_laws.proofs.points.Points.{turns}
use Rattle.gb_laws.proofs.{enumerations.Asked.waits-unsent, links.LinkBuses.new_link}
use Rattle.gb_laws.proofs.{links.LinkKept.LinkedAt}
use Rattle.gb_laws.proofs.{links.Links.ArePending, points.PointParts.Point}

-- it takes notice of nothing
abbrev pub TurnsNone : (m : Moment) (a : Point) → Change m a → Type 0
TurnsNone m a (turns e free untouched none cause) = ⊥
TurnsNone m a _ = Unit {0}

fewer-asks : (a : Point) (x : Act) {rest : List Act} → a.pending ≡ x ∷ rest → (q : Asking)
    → AsksIn q rest → AsksIn q a.pending
fewer-asks a x is q j = subst (AsksIn q) (sym is) (asks-more q x j)

-- Then no more is to be asked.
pub asks-kept : (m : Moment) (a : Point) (x : Change m a) → TurnsNone m a x → (r : Asking)
    → AsksIn r (changed m a x).pending → AsksIn r a.pending
asks-kept m a (turns e free untouched none cause) still r j = absurd still
asks-kept m a (acts_told e rest is quiet) still r j = fewer-asks a (Act.Tell e) is r j
asks-kept m a (acts_shut k rest free is cause) still r j = fewer-asks a (Act.Shut k) is r j
asks-kept m a (acts_left k rest free untouched is) still r j = fewer-asks a (Act.Leave k) is r j
asks-kept m a (acts_made w q rest free is) still r j = subst (AsksIn r) (sym is) (by j)
  where
    same : (x y : Asking) → Act.Ask x ≡ Act.Ask y → x ≡ y
    same x y e = cc

    by : AsksIn r (Act.Ask q ∷ rest) → AsksIn r (Act.Make w q ∷ rest)
    by (asks_in (inl e)) = opens_in w (inl (ap (Act.Make w) (same r q e)))
    by (asks_in (inr i)) = asks_in (inr i)
    by (opens_in v (inl e)) = absurd cc
    by (opens_in v (inr i)) = opens_in v (inr i)
asks-kept m a (acts_asked q n rest is) still r j = fewer-asks a (Act.Ask q) is.0 r j
asks-kept m a (acts_failed q rest is quiet) still r j = by is
  where
    by : IsAsking q a.pending rest → AsksIn r a.pending
    by (asking e) = fewer-asks a (Act.Ask q) e r j
    by (opening w e) = fewer-asks a (Act.Make w q) e r j
asks-kept m a _ still r j = j

-- it isn't to wait for a request that was made either
abbrev pub WaitsNone : (m : Moment) (a : Point) → Change m a → Type 0
WaitsNone m a (turns e free untouched none cause) = ⊥
WaitsNone m a (acts_asked q n rest is) = ⊥
WaitsNone m a _ = Unit {0}

-- Then no interface waits for more.
pub waits-kept : (m : Moment) (a : Point) (x : Change m a) → WaitsNone m a x
    → WaitsFewer a.state.host (changed m a x).state.host
waits-kept m a (turns e free untouched none cause) still = absurd still
waits-kept m a (acts_asked q n rest is) still = absurd still
waits-kept m a (acts_failed q rest is quiet) still =
    waits-unsent q.purpose a.state.host
waits-kept m a (serves k kind payload none) still = by (host-served k kind payload)
  where
    by : ServedHost a.state.host (host_serves k kind payload a.state.host)
        → WaitsFewer a.state.host (host_serves k kind payload a.state.host).host
    by (as_before e) = subst (WaitsFewer a.state.host) (sym e) (same-waits a.state.host)
    by (with_more i c total e) = subst (WaitsFewer a.state.host) (sym e) (same-waits a.state.host)
    by (with_images x e) = subst (WaitsFewer a.state.host) (sym e) (same-waits a.state.host)
waits-kept m a _ still = same-waits a.state.host

-- Connections stay, unless it takes notice of something.
pub stay-kept : (m : Moment) (a : Point) (x : Change m a) → TurnsNone m a x → LinkedAt a
    → Stay a.state.host.links (changed m a x).state.host.links
stay-kept m a (turns e free untouched none cause) still links = absurd still
stay-kept m a (acts_made w q rest free is) still links =
    λ l i. (l, in-front l a.state.host.links (new_link _ w ∷ []) i, same-link l)
stay-kept m a (acts_asked q n rest is) still links =
    subst (λ (g : Host). Stay a.state.host.links g.links) (sym (awaited-host q.purpose n a.state))
    (awaits-fits q.purpose n links.host
    (subst (ArePending a.state.host) is.0 links.pending).0.0).1
stay-kept m a (acts_failed q rest is quiet) still links =
    (unsent-stays q is links.pending links.host).1
stay-kept m a (serves k kind payload none) still links = by (host-served k kind payload)
  where
    by : ServedHost a.state.host (host_serves k kind payload a.state.host)
        → Stay a.state.host.links (host_serves k kind payload a.state.host).host.links
    by (as_before e) = subst (λ (g : Host). Stay a.state.host.links g.links) (sym e)
        (stay-same a.state.host.links)
    by (with_more i c total e) = subst (λ (g : Host). Stay a.state.host.links g.links) (sym e)
        (stay-changed a.state.host.links i c (with_credits total) (credits-link total))
    by (with_images x e) = subst (λ (g : Host). Stay a.state.host.links g.links) (sym e)
        (stay-same a.state.host.links)
stay-kept m a (spends i c what none) still links =
    stay-changed a.state.host.links i c (spent what) (λ l. credits-link _ l)
stay-kept m a _ still links = stay-same a.state.host.links
