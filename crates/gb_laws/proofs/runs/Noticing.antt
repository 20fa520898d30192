-- What is known of connections goes over what the application processor does where a request ended,
-- and where a connection begins to drain, and makes what it does next possible.
use Rattle.std.proofs.Common.{None, Option, Some, [], ap, false, is_none, refl, true, ℕ}
use Rattle.std.proofs.Common.{◌==◌, ◌∙◌, ◌≡◌}
use Rattle.gb_base.specs.declared.event.Event.TheVariants as event
use Rattle.gb_base.specs.declared.end.Side.{Side}
use Rattle.gb_base.specs.declared.host_event.HostEvent.TheVariants as host_event
use Rattle.gb_base.specs.declared.outcome.Outcome.{Outcome}
use Rattle.gb_machine.proofs.Opened.{machine_opened}
use Rattle.gb_machine.specs.Bus.{Bus, Connection, connection_of, has_number}
use Rattle.gb_machine.specs.Delivery.{ended, popped}
use Rattle.gb_machine.specs.Host.{Host}
use Rattle.gb_machine.specs.HostActs.{notices}
use Rattle.gb_machine.specs.Reached.{OfARun}
use Rattle.gb_machine.specs.Refusals.{refusal}
use Rattle.gb_machine.specs.Members.{IsIn}
use Rattle.gb_machine.specs.Requests.{gave_up}
use Rattle.gb_machine.specs.Runs.{Moment}
use Rattle.gb_machine.specs.State.{State}
use Rattle.gb_invariants.proofs.Awaiting.{none-some, not-both}
use Rattle.gb_invariants.proofs.BusChanges.{BusChange}
use Rattle.gb_invariants.proofs.{Found.find-none, Lists.found-in}
use Rattle.gb_invariants.proofs.HostChanges.{Notice, at_event, turn_of}
use Rattle.gb_invariants.proofs.ModuleTurns.{takes_notice}
use Rattle.gb_invariants.proofs.Wires.{alive-after}
use Rattle.gb_laws.proofs.links.ActsFit.{ever-fit, fit-other}
use Rattle.gb_laws.proofs.links.LinkChanges.{linked-ended, linked-gave_up, linked-popped}
use Rattle.gb_laws.proofs.links.LinkKept.{InsertsAbsent, LinkedAt, TurnsTo, event-allowed}
use Rattle.gb_laws.proofs.links.LinkKept.{linked-kept, turned}
use Rattle.gb_laws.proofs.links.LinkLives.{AreAlive, alive-from, alive-kept}
use Rattle.gb_laws.proofs.links.Possible.{possible}
use Rattle.gb_laws.proofs.points.PointParts.{IsCaused}
use Rattle.gb_laws.proofs.steps.StepActs.{goes-acts}
use Rattle.gb_laws.proofs.{links.LinkFrom.Linked, links.LinkSources.from-turn}
use Rattle.gb_laws.proofs.{runs.OfStates.reached-has}
use Rattle.gb_laws.proofs.{creations.RememberedLive.SinceTo}
use Rattle.gb_laws.proofs.{creations.RememberedLive.since-throughout, runs.Runs.weaker}
use Rattle.gb_laws.specs.Possible.{MayFollow, MayIdle}

-- What is known of connections: they go with those that the application processor knows, and each
-- of these is live.
pub record Knows (b : Bus) (h : Host) : Type 0 where
  pub links : Linked b h []
  pub alive : AreAlive b.connections h

-- it is known at a state
abbrev pub KnowsAt : State → Type 0
KnowsAt s = Knows s.bus s.host

-- ---- acts, done

-- It is known again once the acts of a turn are done, where no connection is idle.
noticed-known : (m : Moment) (x : Notice) (s : State) → InsertsAbsent m
    → ((k : ℕ) → x ≡ at_event (host_event.Idle k) → ⊥) → IsCaused m x s.host
    → TurnsTo s.bus s.host x
    → AreAlive s.bus.connections s.host → KnowsAt (takes_notice x s).state
unfolding machine_opened
noticed-known m x s absent other cause links alive =
    let t = turn_of x s.host in
    let r = goes-acts m (record {
      holds = λ a. LinkedAt a × AreAlive a.state.bus.connections a.state.host;
      kept = λ a y is h. (linked-kept m absent y h.0, alive-kept m a y h.0 h.1);
    }) t.acts (record s { host = t.host })
    (ever-fit m s.bus t.acts (fit-other m x s.host other cause)) []
    (links, alive-from s.bus.connections s.host t.host (from-turn x s.host) alive) in
    record { links = r.0; alive = r.1 }

-- where a request ended
pub knows-ended : (n : ℕ) (how : Outcome) (s : State) → KnowsAt s
    → KnowsAt (notices (host_event.Ended n how) s).state
unfolding machine_opened
knows-ended n how s f =
    noticed-known (record { told = []; event = event.Show; before = s })
    (at_event (host_event.Ended n how)) s
    (λ p count i noticed. let at = noticed.event in absurd cc) (λ k e. absurd cc) tt
    (turned (at_event (host_event.Ended n how)) tt f.links) f.alive

-- and where a drain isn't refused
pub knows-drains : (i c : ℕ) (s : State) → refusal s (event.Drain i c) ≡ None → KnowsAt s
    → KnowsAt (notices (host_event.Drain i c) s).state
unfolding machine_opened
knows-drains i c s allowed f =
    let m : Moment = record { told = []; event = event.Drain i c; before = s } in
    noticed-known m (at_event (host_event.Drain i c)) s
    (λ p count j noticed. let at = noticed.event in absurd cc) (λ k e. absurd cc)
    (refl, refl, allowed) (turned (at_event (host_event.Drain i c))
    (event-allowed m (host_event.Drain i c) s.host (refl, refl, allowed)) f.links) f.alive

-- ---- where it is known

-- It is known at every state of a run,
pub knows-reached : (s : State) → OfARun s → KnowsAt s
knows-reached = reached-has KnowsAt (weaker SinceTo (λ told s. KnowsAt s)
    (λ told s h. record { links = h.links.1; alive = h.there }) since-throughout)

-- where an item is taken,
pub knows-popped : {b : Bus} {h : Host} (k : ℕ) (at : Side) → Knows b h → Knows (popped k at b) h
knows-popped {b} k at f = record {
  links = linked-popped k at f.links;
  alive = λ l i. alive-after (BusChange.takes k at) b l.connection (λ e. none-some e) (f.alive l i);
}

-- where a request ends,
pub knows-over : {b : Bus} {h : Host} (n : ℕ) (how : Outcome) → Knows b h → Knows (ended n how b) h
knows-over n how f = record { links = linked-ended n how f.links; alive = f.alive }

-- and where one is given up.
pub knows-gave_up : {b : Bus} {h : Host} (n : ℕ) (how : Outcome) → Knows b h
    → Knows (gave_up n how b) h
knows-gave_up n how f = record { links = linked-gave_up n how f.links; alive = f.alive }

-- ---- what is possible there

-- nothing is open on a connection
pub may-idle : (k : ℕ) (s : State) → KnowsAt s → MayIdle k s
may-idle k s f = record {
  live = λ l is.
      let found = found-in (λ l. l.connection == k) s.host.links l is in
      let c = f.alive l found.0 in
      there c.connection c.live (ap (λ n. n == k) c.number ∙ found.1)
      (connection_of k s.bus) refl;
  turn = (tt, possible _ (turned (at_event (host_event.Idle k)) tt f.links));
}
  where
    there : (c : Connection) → IsIn c s.bus.connections → has_number k c ≡ true
        → (o : Option Connection) → connection_of k s.bus ≡ o → is_none o ≡ false
    there c live is None e =
        absurd (not-both (has_number k c) is
        (find-none (has_number k) s.bus.connections c e live))
    there c live is (Some d) e = refl

-- a request ended
pub may-follow : (n : ℕ) (how : Outcome) (s : State)
    → KnowsAt s → MayFollow n how s
may-follow n how s f = record {
  turn = (tt, possible _ (turned (at_event (host_event.Ended n how)) tt f.links));
  idle = λ k. may-idle k (notices (host_event.Ended n how) s).state (knows-ended n how s f);
}
