-- What the enumeration of an interface waits for was asked for it: of the supervisory controller by
-- one of its requests, or on another connection.
use Rattle.std.proofs.Common.{Bool, List, None, Option, Some, ap, arith, false, refl, subst, sym}
use Rattle.std.proofs.Common.{true, ℕ, ⊎_elim, [], ◌∙◌, ◌∷◌, ◌≡◌, ◌≢◌}
use Rattle.std.specs.Prelude.{not, option_and_then, ◌&&◌}
use Rattle.gb_base.specs.declared.entry.Entry.{Entry}
use Rattle.gb_base.specs.declared.interface.Interface.{Interface}
use Rattle.gb_base.specs.declared.steps.SequenceStep.{SequenceStep}
use Rattle.gb_machine.specs.Bus.{Bus, Request, next_number, request_of}
use Rattle.gb_machine.specs.Host.{Host, interface_of, is_intf}
use Rattle.gb_machine.specs.Sending.{Draft, requested, sent}
use Rattle.gb_machine.specs.{HostActs.host_draft, LawsSvc.IsEnumeration, Members.IsIn, Runs.Moment}
use Rattle.gb_machine.specs.{SequenceSteps.asks_control, SequenceSteps.is_enumeration, State.State}
use Rattle.gb_machine.specs.{Turns.Act, Turns.Asking}
use Rattle.gb_machine.specs.LawsSvc as svc
use Rattle.gb_invariants.proofs.Awaiting.{none-some, same-some, sent-new}
use Rattle.gb_invariants.proofs.{BusChanges.KeepsRequests, Lists.found-in, Outcomes.same-number}
use Rattle.gb_laws.proofs.enumerations.AskedWaits.{WaitsFewer, is_power_step, same-waits}
use Rattle.gb_laws.proofs.links.LinkRuns.{LinkedTo, linked-over, linked-throughout, start-absent}
use Rattle.gb_laws.proofs.links.Links.{ArePending, IsDue, IsDueBy, IsFormed}
use Rattle.gb_laws.proofs.points.Points.{Change, IsAskedBy, Law, acts_asked, asks, awaited_by}
use Rattle.gb_laws.proofs.points.Points.{by_far, by_loader}
use Rattle.gb_laws.proofs.points.Points.{by_host, changed, turns, upon}
use Rattle.gb_laws.proofs.runs.Runs.{HoldsByMoments, Keeps, throughout, weaker}
use Rattle.gb_laws.proofs.{enumerations.Asked.turn-waits, points.ChangeBuses.keeps-requests}
use Rattle.gb_laws.proofs.{points.ChangeHosts.waits-kept}
use Rattle.gb_laws.proofs.{enumerations.EnumRequests.power-enumerates}
use Rattle.gb_laws.proofs.{links.LinkActs.awaited-interface}
use Rattle.gb_laws.proofs.{links.LinkKept.InsertsAbsent, links.LinkKept.LinkedAt}
use Rattle.gb_laws.proofs.{links.LinkLaw.link_law}
use Rattle.gb_laws.proofs.{points.PointParts.Point, points.PointParts.resting}
use Rattle.gb_laws.proofs.{steps.Steps.over-step}
use Rattle.gb_laws.specs.OwnWaits.{AwaitsOwnRequest}

-- Request n was made for a step of the enumeration of an interface.
pub record IsOwnWait (i n : ℕ) (step : SequenceStep) (b : Bus) : Type 0 where
  pub request : Request
  pub made : request_of n b ≡ Some request
  pub twoway : request.oneway ≡ false
  pub svc : asks_control step ≡ false → IsEnumeration i request
  pub control : asks_control step ≡ true → request.connection ≢ 1

-- What interfaces wait for was made so, and what one is to wait for.
pub record WaitsOwn (a : Point) : Type 0 where
  pub waits : (x : Interface) → IsIn x a.state.host.interfaces → (w : ℕ × SequenceStep)
      → x.awaits ≡ Some w → IsOwnWait x.intf w.0 w.1 a.state.bus
  pub asked : (q : Asking) (n : ℕ) → a.asked ≡ Some (q, n) → is_enumeration q.purpose.step ≡ true
      → IsOwnWait q.purpose.intf n q.purpose.step a.state.bus

-- ---- where requests are made and interfaces wait for no more

wait-more : {i n : ℕ} {step : SequenceStep} {b after : Bus} → KeepsRequests b after
    → IsOwnWait i n step b → IsOwnWait i n step after
wait-more {n} keeps w = record {
  request = w.request;
  made = keeps n w.request w.made;
  twoway = w.twoway;
  svc = w.svc;
  control = w.control;
}

own-still : (a b : Point) → KeepsRequests a.state.bus b.state.bus
    → WaitsFewer a.state.host b.state.host
    → ((q : Asking) (n : ℕ) → b.asked ≡ Some (q, n) → is_enumeration q.purpose.step ≡ true
    → IsOwnWait q.purpose.intf n q.purpose.step b.state.bus) → WaitsOwn a → WaitsOwn b
own-still a b keeps fewer asked h = record {
  waits = λ x j w e. let was = fewer x j w e in
      subst (λ i. IsOwnWait i w.0 w.1 b.state.bus) was.intf
      (wait-more keeps (h.waits was.was was.known w (was.awaits ∙ e)));
  asked = asked;
}

-- ---- a request is made

-- the request of a pending act
host-own : (a : Point) (q : Asking) (rest : List Act) (label : ℕ) → LinkedAt a
    → a.pending ≡ Act.Ask q ∷ rest → is_enumeration q.purpose.step ≡ true
    → IsOwnWait q.purpose.intf (next_number a.state.bus) q.purpose.step
    (sent (host_draft q a.state.now) label a.state.bus)
host-own a q rest label links pending enumeration = record {
  request = requested (host_draft q a.state.now) label;
  made = sent-new (host_draft q a.state.now) label a.state.bus;
  twoway = refl;
  svc = λ e. record {
    connection = formed.on e;
    side = refl;
    enumerates = power-enumerates q.purpose.intf q formed (power q.purpose.step enumeration e)
        (λ c. next (is_enumeration q.purpose.step) enumeration due) refl;
  };
  control = λ e one. let low = formed.control e in omega (arith, low, one);
}
  where
    due : IsDue q.purpose.step q.purpose a.state.host
    due = (subst (ArePending a.state.host) pending links.pending).0.0

    formed : IsFormed q
    formed = (subst (ArePending a.state.host) pending links.pending).0.2

    next : (t : Bool) → t ≡ true → IsDueBy t q.purpose.step q.purpose a.state.host
        → q.purpose.cport ≡ 0
    next true e d = d.cport
    next false e d = absurd cc

    power : (step : SequenceStep) → is_enumeration step ≡ true → asks_control step ≡ false
        → is_power_step step ≡ true
    power step e f = ap (λ t. t && not (asks_control step)) e ∙ ap not f

-- ---- each single change

pub own-kept : (m : Moment) (a : Point) (x : Change m a) → LinkedAt a → WaitsOwn a
    → WaitsOwn (changed m a x)
own-kept m a (asks d c label free live drawn who) links h =
    own-still a (changed m a (asks d c label free live drawn who))
    (keeps-requests m a (asks d c label free live drawn who)) (same-waits a.state.host) (by who) h
  where
    by : (w : IsAskedBy m a c d) (q : Asking) (n : ℕ) → awaited_by m a c d w ≡ Some (q, n)
        → is_enumeration q.purpose.step ≡ true
        → IsOwnWait q.purpose.intf n q.purpose.step (sent d label a.state.bus)
    by (by_far far on unloaded) q n e s =
        wait-more (keeps-requests m a (asks d c label free live drawn who)) (h.asked q n e s)
    by (by_loader x going far on) q n e s =
        wait-more (keeps-requests m a (asks d c label free live drawn who)) (h.asked q n e s)
    by (by_host p rest pending draft none) q n e s =
        let is = same-some (p, next_number a.state.bus) (q, n) e in
        subst (λ (w : Asking × ℕ). IsOwnWait w.0.purpose.intf w.1 w.0.purpose.step
        (sent d label a.state.bus)) is
        (subst (λ (x : Draft). IsOwnWait p.purpose.intf (next_number a.state.bus) p.purpose.step
        (sent x label a.state.bus)) (sym draft) (host-own a p rest label links pending
        (ap (λ (w : Asking × ℕ). is_enumeration w.0.purpose.step) is ∙ s)))
own-kept m a (turns e free untouched none cause) links h =
    own-still a (changed m a (turns e free untouched none cause)) (λ n r made. made)
    (turn-waits e a.state.host) h.asked h
own-kept m a (acts_asked q n rest is) links h = record {
  waits = λ x j w e. wait-more (keeps-requests m a (acts_asked q n rest is))
      (⊎_elim (λ o. h.waits x o w e)
      (λ u. subst (λ (y : ℕ × SequenceStep). IsOwnWait x.intf y.0 y.1 a.state.bus) u.1
      (subst (λ k. IsOwnWait k n q.purpose.step a.state.bus) u.0 (h.asked q n is.1 u.2)))
      (awaited-interface q.purpose n a.state x w j e));
  asked = λ p k e. absurd (none-some e);
}
own-kept m a x links h = own-still a (changed m a x) (keeps-requests m a x) (waits-kept m a x tt)
    (λ q n e s. wait-more (keeps-requests m a x) (h.asked q n e s)) h

-- ---- throughout

abbrev own_law : (m : Moment) → InsertsAbsent m → Law m
own_law m absent = upon (link_law m absent) WaitsOwn (λ a x g h. own-kept m a x g.1 h)

pub record OwnTo (told : List Entry) (s : State) : Type 0 where
  pub links : LinkedTo told s
  pub own : WaitsOwn (resting told s)

pub own-over : Keeps OwnTo
own-over m one h = record {
  links = linked-over m one h.links;
  own = let r = (over-step m (own_law m (start-absent m h.links)) one
      ((h.links.0, h.links.1), h.own)).1.1 in record { waits = r.waits; asked = r.asked };
}

pub own-throughout : HoldsByMoments OwnTo
own-throughout = throughout OwnTo (record {
  links = linked-throughout [] tt;
  own = record {
    waits = λ x j. absurd j;
    asked = λ q n e. absurd (none-some e);
  };
}) own-over

-- what an interface waits for
pub waiting-interface : (i : ℕ) (h : Host) (w : ℕ × SequenceStep) → svc.awaited_by i h ≡ Some w
    → (x : Interface) × IsIn x h.interfaces × (x.intf ≡ i) × (x.awaits ≡ Some w)
waiting-interface i h w e = by (interface_of i h) refl e
  where
    by : (o : Option Interface) → interface_of i h ≡ o
        → option_and_then (λ (x : Interface). x.awaits) o ≡ Some w
        → (x : Interface) × IsIn x h.interfaces × (x.intf ≡ i) × (x.awaits ≡ Some w)
    by None f g = absurd cc
    by (Some x) f g = let found = found-in (is_intf i) h.interfaces x f in
        (x, found.0, same-number x.intf i found.1, g)

-- The enumeration of an interface waits for a request of its own.
pub awaits-own_by_moments : HoldsByMoments AwaitsOwnRequest
awaits-own_by_moments = weaker OwnTo AwaitsOwnRequest (λ told s h i n step e asks.
    let x = waiting-interface i s.host (n, step) e in
    let w = h.own.waits x.0 x.1 (n, step) x.3 in
    let of = w.svc asks in (
      w.request,
      w.made,
      subst (λ k. IsEnumeration k w.request) x.2 of,
    )) own-throughout
