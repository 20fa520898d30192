-- That only the first connection to a CPort drains is kept by each single change.
use Rattle.std.proofs.Common.{Some, refl, subst, sym}
use Rattle.gb_machine.specs.Host.{Host}
use Rattle.gb_machine.specs.HostServing.{host_serves, with_credits}
use Rattle.gb_machine.specs.{LineActions.spent, Runs.Moment, Wiring.next_connection}
use Rattle.gb_laws.proofs.links.Draining.{FirstDrains, drains-changed, drains-pushed, drains-turn}
use Rattle.gb_laws.proofs.links.Draining.{drains-unsent, drains-waiting}
use Rattle.gb_laws.proofs.links.LinkActs.{ServedHost, as_before, awaited-host, host-served}
use Rattle.gb_laws.proofs.links.LinkActs.{with_images, with_more}
use Rattle.gb_laws.proofs.points.Points.{Change, acts_asked, acts_failed, acts_made, changed}
use Rattle.gb_laws.proofs.points.Points.{serves}
use Rattle.gb_laws.proofs.points.Points.{spends, turns}
use Rattle.gb_laws.proofs.{links.LinkBuses.new_link, links.LinkHosts.credits-link}
use Rattle.gb_laws.proofs.{points.PointParts.Point}

-- only the first connection to a CPort drains at a point
abbrev pub FirstDrainsAt : Point → Type 0
FirstDrainsAt a = FirstDrains a.state.host.links

pub draining-kept : {m : Moment} (a : Point) (x : Change m a) → FirstDrainsAt a
    → FirstDrainsAt (changed m a x)
draining-kept a (turns e free untouched none cause) first = drains-turn e a.state.host first
draining-kept a (acts_made w q rest free is) first =
    drains-pushed a.state.host.links (new_link (next_connection a.state.bus) w) refl first
draining-kept a (acts_asked q n rest is) first =
    subst (λ (g : Host). FirstDrains g.links) (sym (awaited-host q.purpose n a.state))
    (drains-waiting (Some (n, q.purpose.step)) q.purpose a.state.host first)
draining-kept a (acts_failed q rest is quiet) first = drains-unsent q.purpose a.state.host first
draining-kept a (serves k kind payload none) first = by (host-served k kind payload)
  where
    by : ServedHost a.state.host (host_serves k kind payload a.state.host)
        → FirstDrains (host_serves k kind payload a.state.host).host.links
    by (as_before e) = subst (λ (g : Host). FirstDrains g.links) (sym e) first
    by (with_more i c total e) = subst (λ (g : Host). FirstDrains g.links) (sym e)
        (drains-changed i c (with_credits total) (credits-link total) a.state.host.links first)
    by (with_images x e) = subst (λ (g : Host). FirstDrains g.links) (sym e) first
draining-kept a (spends i c what none) first =
    drains-changed i c (spent what) (λ l. credits-link (spent what l).credits l)
    a.state.host.links first
draining-kept a _ first = first
