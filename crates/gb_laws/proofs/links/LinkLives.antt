-- Each connection that the application processor knows is live.
use Rattle.std.proofs.Common.{List, Option, Some, ap, inl, refl, subst, sym, ℕ, ⊎_elim, []}
use Rattle.std.proofs.Common.{◌∙◌, ◌∷◌, ◌≡◌}
use Rattle.gb_base.specs.declared.end.End.TheVariants as end
use Rattle.gb_base.specs.declared.interface.Link.{Link}
use Rattle.gb_base.specs.declared.steps.SequenceStep.{SequenceStep}
use Rattle.gb_machine.specs.Host.{Host, is_link, with_link}
use Rattle.gb_machine.specs.{Bus.Connection, Failures.unsent, HostServing.host_serves}
use Rattle.gb_machine.specs.{HostServing.with_credits, LineActions.spent}
use Rattle.gb_machine.specs.{Members.IsIn, Runs.Moment, Waits.awaits, Wiring.new_connection}
use Rattle.gb_machine.specs.{Wiring.next_connection}
use Rattle.gb_invariants.proofs.{Awaiting.same-some, BusChanges.bus_after, BusChanges.left_by}
use Rattle.gb_invariants.proofs.{Found.in-first, Lists.in-behind, Lists.in-pushed, Wires.IsAlive}
use Rattle.gb_invariants.proofs.{Wires.alive-after}
use Rattle.gb_invariants.proofs.HostChanges.{turn_of}
use Rattle.gb_laws.proofs.links.LinkActs.{ServedHost, as_before, awaited-host, host-served}
use Rattle.gb_laws.proofs.links.LinkActs.{with_images, with_more}
use Rattle.gb_laws.proofs.links.LinkSources.{LinksFrom, from-turn, from-unsent, from-waiting}
use Rattle.gb_laws.proofs.points.Points.{Change, acts_asked, acts_failed, acts_left, acts_made}
use Rattle.gb_laws.proofs.points.Points.{changed}
use Rattle.gb_laws.proofs.points.Points.{serves, spends, turns}
use Rattle.gb_laws.proofs.{points.ChangeBuses.bus_change, points.ChangeBuses.by-bus}
use Rattle.gb_laws.proofs.{links.LinkBuses.new_link}
use Rattle.gb_laws.proofs.{links.LinkKept.LinkedAt, links.Links.ArePending, points.PointParts.Point}

-- each connection that the application processor knows is
abbrev pub AreAlive : List Connection → Host → Type 0
AreAlive cs h = (l : Link) → IsIn l h.links → IsAlive l.connection cs

-- ---- the bus changes

-- where the application processor knows no more
pub alive-from : {w : Option (ℕ × SequenceStep)} (cs : List Connection) (h g : Host)
    → LinksFrom w h g → AreAlive cs h → AreAlive cs g
alive-from cs h g from all l i =
    let x = (from l i).from in
    subst (λ k. IsAlive k cs) (sym x.same.connection) (all x.link x.live)

-- where a connection changes that keeps its number
alive-link : (cs : List Connection) (h : Host) (i c : ℕ) (f : Link → Link)
    → ((l : Link) → (f l).connection ≡ l.connection) → AreAlive cs h
    → AreAlive cs (with_link i c f h)
alive-link cs h i c f same all l j = ⊎_elim (λ o. all l o) (λ w. subst (λ k. IsAlive k cs)
    (sym (ap (λ (x : Link). x.connection) w.3 ∙ same w.0)) (all w.0 w.1))
    (in-first (is_link i c) f h.links l j)

-- ---- each single change

pub alive-kept : (m : Moment) (a : Point) (x : Change m a) → LinkedAt a
    → AreAlive a.state.bus.connections a.state.host
    → AreAlive (changed m a x).state.bus.connections (changed m a x).state.host
alive-kept m a x links h = by-bus (λ b. AreAlive b.connections (changed m a x).state.host) x (by x)
  where
    on : (x : Change m a) → (l : Link) → IsIn l a.state.host.links
        → (left_by (bus_change x) ≡ Some l.connection → ⊥)
        → IsAlive l.connection (bus_after (bus_change x) a.state.bus).connections
    on x l i stays = alive-after (bus_change x) a.state.bus l.connection stays (h l i)

    by : (x : Change m a)
        → AreAlive (bus_after (bus_change x) a.state.bus).connections (changed m a x).state.host
    by (turns e free untouched none cause) =
        alive-from a.state.bus.connections a.state.host (turn_of e a.state.host).host
        (from-turn e a.state.host) h
    by (acts_left k rest free untouched is) = λ l i. on (acts_left k rest free untouched is) l i
        (λ e. (subst (ArePending a.state.host) is links.pending).0.1 l i
        (sym (same-some k l.connection e)))
    by (acts_made w q rest free is) = λ l i. ⊎_elim
        (λ o. on (acts_made w q rest free is) l o (λ e. absurd cc))
        (λ e. subst (λ (k : Link). IsAlive k.connection
        (changed m a (acts_made w q rest free is)).state.bus.connections) (sym e) (record {
          connection = new_connection (next_connection a.state.bus) w.ap
              (end.Module w.intf w.cport) w.protocol;
          live = in-behind _ a.state.bus.connections (_ ∷ []) (inl refl);
          number = refl;
        })) (in-pushed l a.state.host.links (new_link (next_connection a.state.bus) w) i)
    by (acts_asked q n rest is) =
        subst (AreAlive a.state.bus.connections) (sym (awaited-host q.purpose n a.state))
        (alive-from a.state.bus.connections a.state.host (awaits q.purpose n a.state.host)
        (from-waiting (Some (n, q.purpose.step)) q.purpose a.state.host) h)
    by (acts_failed q rest is quiet) =
        alive-from a.state.bus.connections a.state.host (unsent q.purpose a.state.host).host
        (from-unsent q.purpose a.state.host) h
    by (serves k kind payload none) = served (host-served k kind payload)
      where
        served : ServedHost a.state.host (host_serves k kind payload a.state.host)
            → AreAlive a.state.bus.connections (host_serves k kind payload a.state.host).host
        served (as_before e) = subst (AreAlive a.state.bus.connections) (sym e) h
        served (with_more i c total e) = subst (AreAlive a.state.bus.connections) (sym e)
            (alive-link a.state.bus.connections a.state.host i c (with_credits total) (λ l. refl) h)
        served (with_images x e) = subst (AreAlive a.state.bus.connections) (sym e) h
    by (spends i c what none) =
        alive-link a.state.bus.connections a.state.host i c (spent what) (λ l. refl) h
    by x = λ l i. on x l i (λ e. absurd cc)
