-- What holds of every state that a run of valid events leads to: all that code which steps such a
-- state relies on.
use Rattle.std.proofs.Common.{◌≡◌, ◌+◌, ◌++◌, ◌∷◌, ◌∙◌, ℕ, true, false, Some, None}
use Rattle.std.proofs.Common.{List, [], ap, refl, subst, sym}
use Rattle.gb_base.specs.declared.end.End.{End}
use Rattle.gb_base.specs.declared.end.End.TheVariants as end
use Rattle.gb_base.specs.declared.end.Side.{Side}
use Rattle.gb_base.specs.declared.end.Side.TheVariants as side
use Rattle.gb_base.specs.declared.entry.Entry.{Entry}
use Rattle.gb_base.specs.declared.event.Event.{Event}
use Rattle.gb_base.specs.declared.event.Event.TheVariants as event
use Rattle.gb_base.specs.declared.host_event.HostEvent.TheVariants as host_event
use Rattle.gb_base.specs.declared.host_event.HostEvent.{HostEvent}
use Rattle.gb_base.specs.declared.interface.Link.{Link}
use Rattle.gb_base.specs.declared.outcome.Outcome.{Outcome}
use Rattle.gb_base.specs.declared.outcome.Outcome.TheVariants as outcome
use Rattle.gb_formats.specs.ValidEvents.{IsEnd, IsValid}
use Rattle.gb_machine.proofs.Steps.{step-deliver}
use Rattle.gb_machine.specs.{Actions.Told, Arriving.delivers}
use Rattle.gb_machine.specs.Bus.{Ask, Connection, Item, Raw, RawReply, Reply, end_of, is_open}
use Rattle.gb_machine.specs.Delivery.{ended, popped}
use Rattle.gb_machine.specs.{Events.step, GivingUp.gives_up, GivingUp.later_by, Host.link_of}
use Rattle.gb_machine.specs.HostActs.{notices}
use Rattle.gb_machine.specs.Incoming.{Incoming, request_in}
use Rattle.gb_machine.specs.{LawsBus.NameRequests, Lists.first, Members.IsIn}
use Rattle.gb_machine.specs.{Modules.is_plugged, Ports.is_powered, Reached.OfARun}
use Rattle.gb_machine.specs.Refusals.{refusal}
use Rattle.gb_machine.specs.Requests.{gave_up, is_due, open_requests}
use Rattle.gb_machine.specs.{Runs.Moment, State.State, State.first_state, Waiting.first_waiting}
use Rattle.gb_invariants.proofs.{ItemChanges.first-in, Lists.each-append}
use Rattle.gb_invariants.proofs.HostChanges.{at_event}
use Rattle.gb_invariants.specs.Facts.{is_numbered}
use Rattle.gb_laws.proofs.identifiers.Single.{names-by_moments}
use Rattle.gb_laws.proofs.links.{LinkFrom.Linked, LinkLists.found-link, Possible.possible}
use Rattle.gb_laws.proofs.links.Links.{IsKnown, leaving, linked, supervisory}
use Rattle.gb_laws.proofs.links.{Reading.read-by}
use Rattle.gb_laws.proofs.links.LinkKept.{event-allowed, turned}
use Rattle.gb_laws.proofs.{opened.FarItems.NoneRawToFar, opened.FarItems.is_raw}
use Rattle.gb_laws.proofs.{opened.FarItems.unraw-throughout, points.Points.resting}
use Rattle.gb_laws.proofs.points.PointParts.{IsCaused}
use Rattle.gb_laws.proofs.runs.Midway.{known-held, known-resting, known_law}
use Rattle.gb_laws.proofs.runs.Noticing.{knows-drains, knows-gave_up, knows-over, knows-popped}
use Rattle.gb_laws.proofs.runs.Noticing.{knows-reached, may-follow, may-idle}
use Rattle.gb_laws.proofs.runs.OfStates.{reached-has, reached-told}
use Rattle.gb_laws.proofs.{runs.Runs.weaker, runs.SettleQueues.first-waits}
use Rattle.gb_laws.proofs.{runs.Settles.IsSettleable, runs.Settles.last-append}
use Rattle.gb_laws.proofs.{runs.Settling.settleable-by_moments}
use Rattle.gb_laws.proofs.steps.Ticking.{Ticks, ticks-first, ticks-next}
use Rattle.gb_laws.proofs.svc.WiredRuns.{WiredTo, wired-throughout}
use Rattle.gb_laws.proofs.svc.WiredWell.{WiredFit}
use Rattle.gb_laws.specs.Possible.{MayFollow, MayIdle, MayTurn}
use Rattle.gb_laws.specs.Readings.{IsReadBy}
pub use Rattle.gb_laws.proofs.marks.Noted.{IsNoted, reached-noted}

-- ---- which states are reached

-- by one more event
pub reached-step : (s : State) (e : Event) → IsValid e → OfARun s → OfARun (step s e).state
reached-step s e valid r = record {
  events = r.events ++ e ∷ [];
  valid = each-append IsValid r.events (e ∷ []) r.valid (valid, tt);
  is = last-append r.events (e ∷ []) first_state ∙ ap (λ t. (step t e).state) r.is;
}

-- by a delivery that isn't refused, alone or within a settle
pub reached-delivery : (s : State) (at : End) → IsEnd at → refusal s (event.Deliver at) ≡ None
    → OfARun s → OfARun (delivers at s).state
reached-delivery s at valid free r =
    subst OfARun (ap (λ (t : Told). t.state) (step-deliver s at free))
    (reached-step s (event.Deliver at) valid r)

-- ---- names, and what waits

-- Names name requests that were made.
pub reached-names : (s : State) → OfARun s → NameRequests s
reached-names = reached-has NameRequests names-by_moments

-- Where something waits first is an end, and a delivery there isn't refused.
pub record IsFirst (s : State) (at : End) : Type 0 where
  pub is_end : IsEnd at
  pub free : refusal s (event.Deliver at) ≡ None

pub reached-waiting : (s : State) (at : End) → OfARun s → first_waiting s.bus ≡ Some at
    → IsFirst s at
reached-waiting s at r waits =
    let h = reached-has IsSettleable settleable-by_moments s r in
    let f = first-waits s at h.deliverable waits in
    record {
      is_end = subst IsEnd f.at_end
          (is-end f.connection f.side (h.ends f.connection f.live f.wired));
      free = f.free;
    }
  where
    is-end : (c : Connection) (t : Side) → IsEnd (end.Ap c.ap) × IsEnd c.peer → IsEnd (end_of t c)
    is-end c side.Ap h = h.0
    is-end c side.Far h = h.1

-- A request that stands in front toward a far end has a number.
pub reached-front : (s : State) (c : Connection) (item : Item) (q : Incoming) → OfARun s
    → IsIn c s.bus.connections → first c.to_far ≡ Some item → request_in item s.bus ≡ Some q
    → is_numbered item ≡ true
reached-front s c item q run live front is =
    by item is
    (reached-has (λ t. NoneRawToFar t.bus.connections) unraw-throughout s run c live item
    (first-in c.to_far item front))
  where
    by : (x : Item) → request_in x s.bus ≡ Some q → is_raw x ≡ false → is_numbered x ≡ true
    by (Ask n) e plain = refl
    by (Reply n result payload) e plain = refl
    by (Raw bytes) e plain = absurd cc
    by (RawReply label kind result payload) e plain = absurd cc

-- ---- modules and connections

-- What is powered is plugged.
pub reached-powered : (s : State) (i : ℕ) → OfARun s → is_powered i s.ports ≡ true
    → is_plugged i s.modules ≡ true
reached-powered s i r = (reached-has WiredFit
    (weaker WiredTo (λ told t. WiredFit t) (λ told t h. h.wired) wired-throughout) s r).powered i

-- A connection that the application processor knows is found by its number.
pub reached-link : (s : State) (l : Link) → OfARun s → IsIn l s.host.links
    → link_of l.connection s.host ≡ Some l
reached-link s l r known = found-link s.host.links l (reached-told s r).1.host.links.rise known

-- Far ends are the supervisory controller and modules.
pub reached-far : (s : State) (c : Connection) → OfARun s → IsIn c s.bus.connections → (a : ℕ)
    → c.peer ≡ end.Ap a → ⊥
reached-far s c r live a at = by (f.known c live)
  where
    f : Linked s.bus s.host []
    f = (reached-told s r).1

    by : IsKnown c s.host.links [] → ⊥
    by (supervisory one) = let e : end.Svc ≡ end.Ap a = sym (f.svc c live one).peer ∙ at in cc
    by (linked l i of) = let e : end.Module l.intf l.cport ≡ end.Ap a = sym of.peer ∙ at in cc
    by (leaving i) = i

-- What comes on a connection is read by its protocol.
pub reached-read : (s : State) (c : Connection) → OfARun s → IsIn c s.bus.connections
    → IsReadBy (link_of c.number s.host) c.protocol
reached-read s c r live = read-by c (reached-told s r).1 live

-- ---- what the application processor does of its own is possible

-- where it takes notice of an event that isn't refused
reached-turn : (s : State) (e : Event) (x : HostEvent) → OfARun s
    → IsCaused (record { told = []; event = e; before = s }) (at_event x) s.host → MayTurn x s
reached-turn s e (host_event.Inserted p count) r cause = absurd cause
reached-turn s e (host_event.Removed p) r cause = absurd cause
reached-turn s e x r cause =
    let m : Moment = record { told = []; event = e; before = s } in
    (tt, possible _ (turned (at_event x) (event-allowed m x s.host cause) (reached-told s r).1))

-- at a connect
pub reached-connects : (s : State) (i c : ℕ) → OfARun s → refusal s (event.Connect i c) ≡ None
    → IsValid (event.Connect i c) → MayTurn (host_event.Connect i c) s
reached-connects s i c r allowed valid =
    reached-turn s (event.Connect i c) (host_event.Connect i c) r (refl, refl, allowed, valid.1)

-- at a disconnect
pub reached-disconnects : (s : State) (i c : ℕ) → OfARun s
    → refusal s (event.Disconnect i c) ≡ None → MayTurn (host_event.Disconnect i c) s
reached-disconnects s i c r allowed =
    reached-turn s (event.Disconnect i c) (host_event.Disconnect i c) r (refl, refl, allowed)

-- at a drain
pub reached-drains : (s : State) (i c : ℕ) → OfARun s → refusal s (event.Drain i c) ≡ None
    → MayTurn (host_event.Drain i c) s
reached-drains s i c r allowed =
    reached-turn s (event.Drain i c) (host_event.Drain i c) r (refl, refl, allowed)

-- behind that, where nothing is open on a connection
pub reached-drained : (s : State) (i c k : ℕ) → OfARun s → refusal s (event.Drain i c) ≡ None
    → MayIdle k (notices (host_event.Drain i c) s).state
reached-drained s i c k r allowed =
    may-idle k (notices (host_event.Drain i c) s).state
    (knows-drains i c s allowed (knows-reached s r))

-- where the front item of a queue ended a request
pub reached-ended : (s : State) (n : ℕ) (how : Outcome) (k : ℕ) (at : Side) → OfARun s
    → MayFollow n how (record s { bus = ended n how (popped k at s.bus) })
reached-ended s n how k at r = may-follow n how (record s { bus = ended n how (popped k at s.bus) })
    (knows-over n how (knows-popped k at (knows-reached s r)))

-- where a request is given up
pub reached-gave_up : (s : State) (n : ℕ) (how : Outcome) → OfARun s
    → MayFollow n how (record s { bus = gave_up n how s.bus })
reached-gave_up s n how r = may-follow n how (record s { bus = gave_up n how s.bus })
    (knows-gave_up n how (knows-reached s r))

-- ---- midway through a tick

-- the moment of a tick
abbrev ticking : State → ℕ → Moment
ticking s millis = record { told = []; before = s; event = event.Tick millis }

-- These of the requests that are due are to be given up yet.
pub record IsTicking (s : State) (millis : ℕ) (left : List ℕ) (t : State) : Type 0 where
  run : OfARun s
  told : List Entry
  going : Ticks (ticking s millis) (known_law (ticking s millis) run) left told t

-- first all of them
pub ticking-first : (s : State) (millis : ℕ) → OfARun s
    → IsTicking s millis (open_requests (is_due (s.now + millis)) s.bus) (later_by millis s)
ticking-first s millis r = record {
  run = r;
  told = [];
  going = ticks-first (ticking s millis) (known_law (ticking s millis) r) millis [] refl
      (known-resting (ticking s millis) r);
}

-- one more is given up
pub ticking-next : (s : State) (millis n : ℕ) (left : List ℕ) (t : State)
    → IsTicking s millis (n ∷ left) t
    → IsTicking s millis left (gives_up outcome.Timeout n t).state
ticking-next s millis n left t h = record {
  run = h.run;
  told = h.told ++ (gives_up outcome.Timeout n t).entries;
  going = ticks-next (ticking s millis) (known_law (ticking s millis) h.run) n left h.told t
      h.going;
}

-- the next one is open
pub ticking-open : (s : State) (millis n : ℕ) (left : List ℕ) (t : State)
    → IsTicking s millis (n ∷ left) t → is_open n t.bus ≡ true
ticking-open s millis n left t h = h.going.late.0.unended

-- and what is done where it is given up is possible
pub ticking-follows : (s : State) (millis n : ℕ) (left : List ℕ) (t : State)
    → IsTicking s millis (n ∷ left) t
    → MayFollow n outcome.Timeout (record t { bus = gave_up n outcome.Timeout t.bus })
ticking-follows s millis n left t h =
    let known = known-held (ticking s millis) h.run (resting h.told t) h.going.holds in
    may-follow n outcome.Timeout (record t { bus = gave_up n outcome.Timeout t.bus })
    (knows-gave_up n outcome.Timeout (record { links = known.links; alive = known.alive }))
