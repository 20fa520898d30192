-- Requests stay as they were made, and one that isn't unidirectional never ends as Sent.
use Rattle.std.proofs.Common.{◌≡◌, ℕ, zero, suc, ◌+◌, ◌⊎◌, Bool, true, false, cond, Option, Some}
use Rattle.std.proofs.Common.{None, List, [], ◌∷◌, refl, sym, ap, ◌∙◌, inl, inr, ⊎_elim, subst}
use Rattle.std.specs.Prelude.{◌==◌, is_some}
use Rattle.gb_base.specs.declared.end.End.{End}
use Rattle.gb_base.specs.declared.end.Side.{Side}
use Rattle.gb_base.specs.declared.end.Side.TheVariants as side
use Rattle.gb_base.specs.declared.entry.Entry.{Entry}
use Rattle.gb_base.specs.declared.event.Event.{Event}
use Rattle.gb_base.specs.declared.event.Event.TheVariants as event
use Rattle.gb_base.specs.declared.outcome.Outcome.{Outcome}
use Rattle.gb_base.specs.declared.outcome.Outcome.TheVariants as outcome
use Rattle.gb_formats.specs.ValidEvents.{IsValid}
use Rattle.gb_invariants.proofs.Awaiting.{same-some, sent-new, sent-request}
use Rattle.gb_invariants.proofs.Outcomes.{same-number}
use Rattle.gb_invariants.specs.Facts.{OutcomesFit}
use Rattle.gb_laws.proofs.points.Awaited.{awaited-rest}
use Rattle.gb_laws.proofs.basis.Basics.{basis-first, basis-kept, none-made, rested}
use Rattle.gb_laws.proofs.points.PointParts.{Basis, IsGivenUpFor, Point, resting}
use Rattle.gb_laws.proofs.points.Points.{Change, Law, acts_asked, acts_shut, answers, asks, changed}
use Rattle.gb_laws.proofs.points.Points.{gives_up, names, unwires}
use Rattle.gb_laws.proofs.runs.OfStates.{reached-has, reached-told}
use Rattle.gb_laws.proofs.runs.Reached.{reached-delivery, reached-waiting}
use Rattle.gb_laws.proofs.runs.Runs.{HoldsByMoments, throughout, weaker}
use Rattle.gb_laws.proofs.steps.Steps.{over-step}
use Rattle.gb_laws.specs.Tickets.{TwowayIsNeverSent, TwowayStays}
use Rattle.gb_machine.proofs.Steps.{settles-end, settles-none, settles-on, step-deliver}
use Rattle.gb_machine.proofs.Steps.{step-settle}
use Rattle.gb_machine.specs.Actions.{Told}
use Rattle.gb_machine.specs.Arriving.{delivers}
use Rattle.gb_machine.specs.Bus.{Bus, Request, next_number, outcome_of, request_of}
use Rattle.gb_machine.specs.Events.{step}
use Rattle.gb_machine.specs.Lists.{lookup}
use Rattle.gb_machine.specs.Reached.{OfARun}
use Rattle.gb_machine.specs.Requests.{open_on}
use Rattle.gb_machine.specs.Runs.{IsMoment, Moment}
use Rattle.gb_machine.specs.Sending.{Draft, requested, sent}
use Rattle.gb_machine.specs.Settling.{settles_from}
use Rattle.gb_machine.specs.State.{State}
use Rattle.gb_machine.specs.Waiting.{first_waiting}
use Rattle.gb_machine.specs.Wiring.{all_ended, side_ended, with_connection}

-- ---- requests stay

-- the requests of a bus are ones of another
abbrev pub Grows : Bus → Bus → Type 0
Grows b d = (n : ℕ) (r : Request) → request_of n b ≡ Some r → request_of n d ≡ Some r

grows-sent : (b c : Bus) (d : Draft) (label : ℕ) → Grows b c → Grows b (sent d label c)
grows-sent b c d label h n r made = sent-request d label c n r (h n r made)

grows-kept : (m : Moment) (a : Point) (x : Change m a) → Grows m.before.bus a.state.bus
    → Grows m.before.bus (changed m a x).state.bus
grows-kept m a (asks d c label free live drawn who) h =
    grows-sent m.before.bus a.state.bus d label h
grows-kept m a (names name d c label free live drawn host) h =
    grows-sent m.before.bus a.state.bus d label h
grows-kept m a (acts_asked q n rest is) h =
    subst (Grows m.before.bus) (sym (awaited-rest q.purpose n).bus) h
grows-kept m a _ h = h

abbrev grows_law : (m : Moment) → Law m
grows_law m = record {
  holds = λ a. Basis a × Grows m.before.bus a.state.bus;
  basis = λ a h. h.0;
  kept = λ a x h. (basis-kept a x h.0, grows-kept m a x h.1);
}

pub grows-moment : (s : State) (e : Event) → OfARun s → IsMoment e
    → Grows s.bus (step s e).state.bus
grows-moment s e r one =
    let m : Moment = record { told = []; before = s; event = e } in
    (over-step m (grows_law m) one ((reached-told s r).0, λ n q h. h)).1.1

grows-settle : (left done : ℕ) (s : State) → OfARun s
    → Grows s.bus (settles_from left done s).state.bus
grows-settle zero done s r =
    subst (λ (w : Told). Grows s.bus w.state.bus) (sym (settles-end s done)) (λ n q h. h)
grows-settle (suc left) done s r = by (first_waiting s.bus) refl (grows-settle left (done + 1))
  where
    by : (o : Option End) → first_waiting s.bus ≡ o
        → ((t : State) → OfARun t → Grows t.bus (settles_from left (done + 1) t).state.bus)
        → Grows s.bus (settles_from (suc left) done s).state.bus
    by None waits rec =
        subst (λ (w : Told). Grows s.bus w.state.bus) (sym (settles-none s left done waits))
        (λ n q h. h)
    by (Some at) waits rec =
        let due = reached-waiting s at r waits in
        let t = (delivers at s).state in
        let on = settles-on s t left done at (delivers at s).entries waits refl in
        let one = subst (λ (w : Told). Grows s.bus w.state.bus) (step-deliver s at due.free)
        (grows-moment s (event.Deliver at) r due.is_end) in
        λ n q h. subst (λ (w : Told). request_of n w.state.bus ≡ Some q) (sym on)
        (rec t (reached-delivery s at due.is_end due.free r) n q (one n q h))

moment-or : (e : Event) → IsValid e → IsMoment e ⊎ ((most : ℕ) × (e ≡ event.Settle most))
moment-or (event.Settle most) valid = inr (most, refl)
moment-or e valid = inl valid

grows : (s : State) (e : Event) → OfARun s → IsValid e → Grows s.bus (step s e).state.bus
grows s e r valid =
    ⊎_elim (grows-moment s e r)
    (λ (w : (most : ℕ) × (e ≡ event.Settle most)).
    subst (λ x. Grows s.bus (step s x).state.bus) (sym w.1)
    (subst (λ (t : Told). Grows s.bus t.state.bus) (sym (step-settle s w.0))
    (grows-settle w.0 0 s r)))
    (moment-or e valid)

pub twoway-stays : TwowayStays
twoway-stays s e r valid n w = record {
  request = w.request;
  made = grows s e r valid n w.request w.made;
  twoway = w.twoway;
}

-- ---- never sent

-- a request that isn't unidirectional doesn't end as Sent
abbrev Unsent : Bus → Type 0
Unsent b = (n : ℕ) (r : Request) → request_of n b ≡ Some r → r.oneway ≡ false
    → outcome_of n b ≡ Some outcome.Sent → ⊥

-- what ends otherwise doesn't end as Sent
other-end : (m n : ℕ) (how : Outcome) (outs : List (ℕ × Outcome)) → (how ≡ outcome.Sent → ⊥)
    → lookup n ((m, how) ∷ outs) ≡ Some outcome.Sent → lookup n outs ≡ Some outcome.Sent
other-end m n how outs other h = by (m == n) h
  where
    by : (t : Bool) → cond t (Some how) (lookup n outs) ≡ Some outcome.Sent
        → lookup n outs ≡ Some outcome.Sent
    by true h = absurd (other (same-some how outcome.Sent h))
    by false h = h

other-ends : (ns : List ℕ) (n : ℕ) (how : Outcome) (outs : List (ℕ × Outcome))
    → (how ≡ outcome.Sent → ⊥) → lookup n (all_ended ns how outs) ≡ Some outcome.Sent
    → lookup n outs ≡ Some outcome.Sent
other-ends [] n how outs other h = h
other-ends (m ∷ ns) n how outs other h =
    other-end m n how outs other (other-ends ns n how ((m, how) ∷ outs) other h)

unsent-side : (k : ℕ) (at : Side) (b : Bus) → Unsent b → Unsent (side_ended k at b)
unsent-side k at b h n r made twoway ended =
    h n r made twoway
    (other-ends (open_on k at b) n outcome.Disconnected b.outcomes (λ e. cc) ended)

given_up-other : (m : Moment) (s : State) (n : ℕ) (how : Outcome) → IsGivenUpFor m s how n
    → how ≡ outcome.Sent → ⊥
given_up-other m s n outcome.Cancelled cause e = cc
given_up-other m s n outcome.Timeout cause e = cc
given_up-other m s n outcome.Disconnected cause e = cause
given_up-other m s n outcome.Sent cause e = cause
given_up-other m s n (outcome.Answered result payload) cause e = cause

-- what has an outcome was made before
made-before : (b : Bus) (d : Draft) (label n : ℕ) (r : Request) → OutcomesFit b
    → outcome_of n b ≡ Some outcome.Sent → request_of n (sent d label b) ≡ Some r
    → request_of n b ≡ Some r
made-before b d label n r fits ended made = by (request_of n b) refl
    (fits.made n (ap is_some ended))
  where
    by : (o : Option Request) → request_of n b ≡ o → is_some o ≡ true → request_of n b ≡ Some r
    by None e there = absurd cc
    by (Some q) e there =
        e ∙ sym (sent-request d label b n q e) ∙ made

unsent-sent : (b : Bus) (d : Draft) (label : ℕ) → OutcomesFit b → Unsent b
    → Unsent (sent d label b)
unsent-sent b d label fits h n r made twoway ended = by d.oneway refl ended
  where
    old : outcome_of n b ≡ Some outcome.Sent → ⊥
    old e = h n r (made-before b d label n r fits e made) twoway e

    new : (t : Bool) → d.oneway ≡ true → (next_number b == n) ≡ t
        → cond t (Some outcome.Sent) (outcome_of n b) ≡ Some outcome.Sent → ⊥
    new true once is e =
        let same = same-number (next_number b) n is in
        let q = same-some r (requested d label)
        (sym made ∙ ap (λ k. request_of k (sent d label b)) (sym same) ∙ sent-new d label b) in
        absurd (cc (twoway, once, ap (λ (x : Request). x.oneway) q))
    new false once is e = old e

    by : (t : Bool) → d.oneway ≡ t
        → lookup n (cond t ((next_number b, outcome.Sent) ∷ b.outcomes) b.outcomes)
        ≡ Some outcome.Sent → ⊥
    by true once e = new (next_number b == n) once refl e
    by false once e = old e

unsent-kept : (m : Moment) (a : Point) (x : Change m a) → Basis a → Unsent a.state.bus
    → Unsent (changed m a x).state.bus
unsent-kept m a (asks d c label free live drawn who) basis h =
    unsent-sent a.state.bus d label basis.bus.outcomes h
unsent-kept m a (names name d c label free live drawn host) basis h =
    unsent-sent a.state.bus d label basis.bus.outcomes h
unsent-kept m a (answers x k result payload is says which) basis h = λ n r made twoway ended.
    h n r made twoway (other-end k n _ a.state.bus.outcomes (λ e. cc) ended)
unsent-kept m a (gives_up k how free unended cause) basis h = λ n r made twoway ended.
    h n r made twoway
    (other-end k n how a.state.bus.outcomes (given_up-other m a.state k how cause) ended)
unsent-kept m a (unwires k free before live) basis h =
    unsent-side k side.Far
    (with_connection k (λ c. record c { wired = false; to_ap = []; to_far = [] }) a.state.bus) h
unsent-kept m a (acts_shut k rest free is cause) basis h =
    unsent-side k side.Ap (with_connection k (λ c. record c { shut = true }) a.state.bus) h
unsent-kept m a (acts_asked q n rest is) basis h =
    subst Unsent (sym (awaited-rest q.purpose n).bus) h
unsent-kept m a _ basis h = h

abbrev unsent_law : (m : Moment) → Law m
unsent_law m = record {
  holds = λ a. Basis a × Unsent a.state.bus;
  basis = λ a h. h.0;
  kept = λ a x h. (basis-kept a x h.0, unsent-kept m a x h.0 h.1);
}

abbrev UnsentAt : List Entry → State → Type 0
UnsentAt told s = Basis (resting told s) × Unsent s.bus

unsent-throughout : HoldsByMoments UnsentAt
unsent-throughout = throughout UnsentAt
    (basis-first, λ n r made twoway ended. none-made n r made)
    (λ m one h. let r = over-step m (unsent_law m) one h in (rested _ _ r.0 r.1.0, r.1.1))

pub twoway-never_sent : TwowayIsNeverSent
twoway-never_sent s r n w ended =
    reached-has (λ t. Unsent t.bus)
    (weaker UnsentAt (λ told t. Unsent t.bus) (λ told t h. h.1) unsent-throughout) s r
    n w.request w.made w.twoway ended
