-- The facts of the application processor's connections are kept by each single change.
use Rattle.std.proofs.Common.{None, refl, subst, sym, ℕ, [], ◌∷◌, ◌≡◌, ◌≢◌}
use Rattle.std.specs.Prelude.{◌-◌}
use Rattle.gb_base.specs.declared.host_event.HostEvent.TheVariants as host_event
use Rattle.gb_base.specs.declared.host_event.HostEvent.{HostEvent}
use Rattle.gb_base.specs.declared.refusal.Refusal.TheVariants as why
use Rattle.gb_base.specs.declared.end.Side.{Side}
use Rattle.gb_base.specs.declared.end.End.TheVariants as end
use Rattle.gb_base.specs.declared.end.Side.TheVariants as side
use Rattle.gb_base.specs.declared.event.Event.TheVariants as event
use Rattle.gb_formats.specs.Bridges.{credits_taken}
use Rattle.gb_machine.proofs.Conditions.{AreUnmet, free, front-unmet}
use Rattle.gb_machine.specs.Bus.{Bus, end_of}
use Rattle.gb_machine.specs.Host.{Host, control_of, interface_of, with_given, with_link}
use Rattle.gb_machine.specs.Turns.{Act}
use Rattle.gb_machine.specs.{HostRefusals.connect_conditions, HostRefusals.disconnect_conditions}
use Rattle.gb_machine.specs.{HostServing.host_serves}
use Rattle.gb_machine.specs.{LineActions.spent, Lists.holds_of, Members.IsIn, Refusals.has_no_label}
use Rattle.gb_machine.specs.Lists.{span}
use Rattle.gb_machine.specs.{Runs.Moment, Wiring.shut_down}
use Rattle.gb_machine.specs.HostRefusals.{drain_conditions}
use Rattle.gb_invariants.proofs.{BusChanges.BusChange}
use Rattle.gb_invariants.proofs.HostChanges.{Notice, at_removal, turn_of}
use Rattle.gb_invariants.proofs.HostChanges.{at_event, at_insertion}
use Rattle.gb_laws.proofs.links.LinkActs.{linked-asked, linked-images, linked-link, linked-served}
use Rattle.gb_laws.proofs.links.LinkActs.{linked-unsent}
use Rattle.gb_laws.proofs.links.LinkBuses.{linked-left, linked-opened, linked-rest, linked-shut}
use Rattle.gb_laws.proofs.links.LinkDue.{IsAllowed}
use Rattle.gb_laws.proofs.links.LinkTurns.{turn-fits}
use Rattle.gb_laws.proofs.points.PointParts.{IsCaused, IsNoticed, Point}
use Rattle.gb_laws.proofs.points.Points.{Change, acts_asked, acts_failed, acts_left, acts_made}
use Rattle.gb_laws.proofs.points.Points.{acts_shut, acts_told, changed, gives, injects, serves}
use Rattle.gb_laws.proofs.points.Points.{spends}
use Rattle.gb_laws.proofs.points.Points.{turns}
use Rattle.gb_laws.proofs.{points.ChangeBuses.bus_change, links.LinkChanges.linked-after}
use Rattle.gb_laws.proofs.{links.LinkFrom.Linked, links.LinkFrom.followed-known}
use Rattle.gb_laws.proofs.{points.Places.module-far, points.Places.place-is}

-- an interface of a module whose insertion is handled at a moment is absent
abbrev pub InsertsAbsent : Moment → Type 0
InsertsAbsent m = (p count i : ℕ) → IsNoticed m (host_event.Inserted p count)
    → IsIn i (span p count) → interface_of i m.before.host ≡ None

-- an event of which it takes notice may be
pub event-allowed : (m : Moment) (x : HostEvent) (h : Host) → IsCaused m (at_event x) h
    → IsAllowed (at_event x) h
event-allowed m (host_event.Connect i c) h cause = (
  subst (λ g. AreUnmet (connect_conditions i c g)) (sym cause.0)
      (front-unmet (connect_conditions i c m.before.host)
      ((has_no_label 1 side.Ap m.before, why.NoLabel) ∷ [])
      (free m.before (event.Connect i c) cause.2)),
  cause.3,
)
event-allowed m (host_event.Disconnect i c) h cause =
    subst (λ g. AreUnmet (disconnect_conditions i c g)) (sym cause.0)
    (front-unmet (disconnect_conditions i c m.before.host)
    ((
      holds_of (λ k. has_no_label k side.Ap m.before) (control_of i m.before.host),
      why.NoLabel,
    ) ∷ [])
    (free m.before (event.Disconnect i c) cause.2))
event-allowed m (host_event.Drain i c) h cause =
    subst (λ g. AreUnmet (drain_conditions i c g)) (sym cause.0)
    (free m.before (event.Drain i c) cause.2)
event-allowed m x h cause = tt

-- and so may all that it takes notice of
pub allowed : (m : Moment) → InsertsAbsent m → (x : Notice) (h : Host) → IsCaused m x h
    → IsAllowed x h
allowed m absent (at_insertion p i) h cause =
    cause.absent (absent p cause.count i cause.noticed cause.within)
allowed m absent (at_removal i) h cause = tt
allowed m absent (at_event x) h cause = event-allowed m x h cause

-- The facts go with the acts of a turn.
abbrev pub TurnsTo : Bus → Host → Notice → Type 0
TurnsTo b h x = Linked b (turn_of x h).host (turn_of x h).acts

-- They hold behind each turn, before its acts are done.
pub turned : {b : Bus} {h : Host} (x : Notice) → IsAllowed x h → Linked b h [] → TurnsTo b h x
turned {b} {h} x may f = let fits = turn-fits x may f.host in record {
  host = fits.host;
  pending = fits.pending;
  known = λ c live. followed-known c h.links (turn_of x h).acts fits.followed (f.known c live);
  svc = f.svc;
  made = f.made;
}

-- The application processor's connections at a point.
abbrev pub LinkedAt : Point → Type 0
LinkedAt a = Linked a.state.bus a.state.host a.pending

pub linked-kept : (m : Moment) → InsertsAbsent m → {a : Point} (x : Change m a)
    → LinkedAt a → LinkedAt (changed m a x)
linked-kept m absent {a} (injects i c p bytes free named) h =
    linked-after (BusChange.injects p.connection.number bytes) other h
  where
    other : p.connection.number ≢ 1
    other one =
        let place = place-is (end.Module i c) a.state.bus.connections p named in
        let s = h.svc p.connection place.live one in
        svc-at p.side (module-far i c p.side p.connection place.is) place.is s.peer
      where
        svc-at : (s : Side) → s ≡ side.Far → end_of s p.connection ≡ end.Module i c
            → p.connection.peer ≡ end.Svc → ⊥
        svc-at side.Far far is peer = absurd cc
        svc-at side.Ap far is peer = absurd cc
linked-kept m absent {a} (turns e free untouched none cause) h =
    turned e (allowed m absent e a.state.host cause)
    (subst (Linked a.state.bus a.state.host) none h)
linked-kept m absent {a} (acts_told e rest is quiet) h =
    linked-rest a.state.bus a.state.host (Act.Tell e) rest (λ k f. absurd cc)
    (subst (Linked a.state.bus a.state.host) is h)
linked-kept m absent {a} (acts_shut k rest free is cause) h =
    linked-shut a.state.bus (shut_down k a.state.bus) a.state.host k rest refl refl
    (subst (Linked a.state.bus a.state.host) is h)
linked-kept m absent {a} (acts_left k rest free untouched is) h =
    linked-left a.state.bus a.state.host k rest (subst (Linked a.state.bus a.state.host) is h)
linked-kept m absent {a} (acts_made w q rest free is) h =
    linked-opened w q rest (subst (Linked a.state.bus a.state.host) is h)
linked-kept m absent {a} (acts_asked q n rest is) h =
    linked-asked q n rest a.state (subst (Linked a.state.bus a.state.host) is.0 h)
linked-kept m absent (acts_failed q rest is quiet) h =
    linked-unsent q is h
linked-kept m absent {a} (serves k kind payload none) h =
    subst (Linked a.state.bus (host_serves k kind payload a.state.host).host) (sym none.0)
    (linked-served k kind payload (subst (Linked a.state.bus a.state.host) none.0 h))
linked-kept m absent {a} (spends i c what none) h =
    subst (Linked a.state.bus (with_link i c (spent what) a.state.host)) (sym none.0)
    (linked-link i c (λ l. l.credits - credits_taken what)
    (subst (Linked a.state.bus a.state.host) none.0 h))
linked-kept m absent {a} (gives tag bytes at none) h =
    subst (Linked a.state.bus (with_given tag bytes a.state.host)) (sym at.0)
    (linked-images (with_given tag bytes a.state.host).images
    (subst (Linked a.state.bus a.state.host) at.0 h))
linked-kept m absent x h = linked-after (bus_change x) tt h
