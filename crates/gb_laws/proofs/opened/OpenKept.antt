-- That the requests of the application processor are upon live connections is kept by
-- each single change.
use Rattle.std.proofs.Common.{Some, ap, inl, inr, refl, subst, sym, ⊎_elim}
use Rattle.gb_machine.specs.Host.{Host, with_given}
use Rattle.gb_machine.specs.{HostActs.with_awaited, HostServing.host_serves}
use Rattle.gb_machine.specs.{HostServing.with_credits, LineActions.spent, Members.IsIn, Runs.Moment}
use Rattle.gb_machine.specs.{Turns.Act}
use Rattle.gb_invariants.proofs.{Awaiting.gave_up-before, BusChanges.awaits-after, Lists.each-in}
use Rattle.gb_invariants.specs.Facts.{IsMade}
use Rattle.gb_laws.proofs.links.LinkActs.{ServedHost, as_before, awaited-host, host-served}
use Rattle.gb_laws.proofs.links.LinkActs.{with_images, with_more}
use Rattle.gb_laws.proofs.links.LinkCloses.{ClosesFewer, fewer-kept, fewer-links, fewer-unsent}
use Rattle.gb_laws.proofs.links.LinkCloses.{fewer-waiting}
use Rattle.gb_laws.proofs.opened.OpenActs.{opens-left, opens-opened, opens-shut, upon-asked}
use Rattle.gb_laws.proofs.opened.OpenActs.{upon-line}
use Rattle.gb_laws.proofs.opened.Opens.{Opens, opens-act, opens-fewer, opens-host, opens-sent}
use Rattle.gb_laws.proofs.points.Points.{Change, IsAsking, acts_asked, acts_failed, acts_left}
use Rattle.gb_laws.proofs.points.Points.{acts_made}
use Rattle.gb_laws.proofs.points.Points.{acts_shut, acts_told, asking, asks, changed, gives_up}
use Rattle.gb_laws.proofs.points.Points.{gives, names}
use Rattle.gb_laws.proofs.points.Points.{opening, serves, spends, turns}
use Rattle.gb_laws.proofs.{points.Awaited.awaited-rest, points.ChangeBuses.bus_change}
use Rattle.gb_laws.proofs.{links.LinkCloses.closes-turn}
use Rattle.gb_laws.proofs.{links.LinkFrom.Linked, links.LinkKept.LinkedAt}
use Rattle.gb_laws.proofs.{links.LinkSides.shut-after}
use Rattle.gb_laws.proofs.{points.PointParts.Basis, points.PointParts.Point}

-- ---- each single change

pub opens-kept : (m : Moment) (a : Point) (x : Change m a) → Basis a → LinkedAt a
    → Opens a.state.bus a.state.host a.pending
    → Opens (changed m a x).state.bus (changed m a x).state.host (changed m a x).pending
opens-kept m a (asks d c label free live drawn who) basis links h =
    opens-sent d label basis.bus.outcomes (upon-asked m a d c live links who) h
opens-kept m a (names name d c label free live drawn host) basis links h =
    opens-sent d label basis.bus.outcomes (λ e. upon-line a d c live links host.1 host.2) h
opens-kept m a (gives_up n how free unended cause) basis links h =
    opens-fewer (gave_up-before n how a.state.bus unended) (λ k. refl) h
opens-kept m a (turns e free untouched none cause) basis links h =
    let r = closes-turn e links.host in record {
      upon = λ n q made w ap_side.
          let u = h.upon n q made w ap_side in
          record {
            open_ = u.open_;
            stays = λ y. ⊎_elim (λ shut. shut u.open_)
                (λ i. subst (λ acts. IsIn (Act.Shut q.connection) acts) none i)
                (h.closing q.connection (r.left q.connection y));
          };
      closing = λ n x. ⊎_elim (λ y. ⊎_elim (λ shut. inl shut)
          (λ i. absurd (subst (λ acts. IsIn (Act.Shut n) acts) none i)) (h.closing n y))
          (λ i. inr i) (r.closing n x);
    }
opens-kept m a (acts_told e rest is quiet) basis links h =
    opens-act (Act.Tell e) (λ n y. y) (λ n f. absurd cc)
    (subst (Opens a.state.bus a.state.host) is h)
opens-kept m a (acts_shut k rest free is cause) basis links h =
    opens-shut k rest (subst (Opens a.state.bus a.state.host) is h)
opens-kept m a (acts_left k rest free untouched is) basis links h =
    opens-left k rest (subst (Opens a.state.bus a.state.host) is h)
opens-kept m a (acts_made w q rest free is) basis links h =
    opens-opened w q rest (λ c live.
    (each-in (IsMade a.state.bus) a.state.bus.connections c basis.bus.numbers.range live).1)
    (subst (Linked a.state.bus a.state.host) is links) (subst (Opens a.state.bus a.state.host) is h)
opens-kept m a (acts_asked q n rest is) basis links h =
    subst (λ b. Opens b (with_awaited q.purpose n a.state).host rest)
    (sym (awaited-rest q.purpose n).bus)
    (subst (λ g. Opens a.state.bus g rest) (sym (awaited-host q.purpose n a.state)) (opens-host
    (fewer-waiting (Some (n, q.purpose.step)) q.purpose a.state.host)
    (opens-act (Act.Ask q) (λ k y. y) (λ k f. absurd cc)
    (subst (Opens a.state.bus a.state.host) is.0 h))))
opens-kept m a (acts_failed q rest is quiet) basis links h =
    opens-host (fewer-unsent q.purpose a.state.host) (by is)
  where
    by : IsAsking q a.pending rest → Opens a.state.bus a.state.host rest
    by (asking e) = opens-act (Act.Ask q) (λ k y. y) (λ k f. absurd cc)
        (subst (Opens a.state.bus a.state.host) e h)
    by (opening w e) = opens-act (Act.Make w q) (λ k y. y)
        (λ k f. absurd cc) (subst (Opens a.state.bus a.state.host) e h)
opens-kept m a (serves k kind payload none) basis links h =
    opens-host (by (host-served k kind payload)) h
  where
    by : ServedHost a.state.host (host_serves k kind payload a.state.host)
        → ClosesFewer a.state.host (host_serves k kind payload a.state.host).host
    by (as_before e) = subst (ClosesFewer a.state.host) (sym e) (λ n x. x)
    by (with_more i c total e) = subst (ClosesFewer a.state.host) (sym e)
        (fewer-kept i c (with_credits total) a.state.host (λ l. refl) (λ l. refl))
    by (with_images x e) =
        fewer-links a.state.host _ (ap (λ (g : Host). g.links) e)
opens-kept m a (spends i c what none) basis links h =
    opens-host (fewer-kept i c (spent what) a.state.host (λ l. refl) (λ l. refl)) h
opens-kept m a (gives tag bytes at none) basis links h =
    opens-host (fewer-links a.state.host (with_given tag bytes a.state.host) refl) h
opens-kept m a x basis links h =
    opens-fewer
    (awaits-after (bus_change x) a.state.bus tt) (shut-after (bus_change x) a.state.bus tt) h
