-- Requests that are late stay open until they are given up.
use Rattle.std.proofs.Common.{Bool, List, None, Some, ap, arith, cond, false, inl, inr, refl, subst}
use Rattle.std.proofs.Common.{true, ℕ, [], ◌+◌, ◌<◌, ◌∙◌, ◌∷◌, ◌≡◌, ◌≤◌}
use Rattle.std.proofs.lemmas.Bool.Decides.{nat_tests}
use Rattle.std.specs.Prelude.{nat_le}
use Rattle.gb_base.specs.declared.end.Side.TheVariants as side
use Rattle.gb_base.specs.declared.event.Event.TheVariants as event
use Rattle.gb_base.specs.declared.outcome.Outcome.TheVariants as outcome
use Rattle.gb_machine.proofs.{Lists.nth-within, Opened.machine_opened}
use Rattle.gb_machine.specs.Bus.{Bus, Request, is_open, next_number, outcome_of, request_of}
use Rattle.gb_machine.specs.Requests.{gave_up, is_due, is_of, open_on, open_requests}
use Rattle.gb_machine.specs.{GivingUp.gives_up, GivingUp.later_by, HostActs.host_follows}
use Rattle.gb_machine.specs.{Lists.lookup, Lists.nth, Members.Each, Members.IsIn, Runs.Moment}
use Rattle.gb_machine.specs.{Sending.Draft, Sending.sent, State.State}
use Rattle.gb_machine.specs.Wiring.{all_ended, shut_down, with_connection}
use Rattle.gb_invariants.proofs.Awaiting.{is-open, opened, sent-request}
use Rattle.gb_invariants.proofs.Outcomes.{in-open_requests, lookup-past, open_requests-in}
use Rattle.gb_laws.proofs.points.PointParts.{IsLate, IsShutFor, Point, disconnected, idle, removed}
use Rattle.gb_laws.proofs.points.Points.{Change, acts_asked, acts_failed, acts_left, acts_made}
use Rattle.gb_laws.proofs.points.Points.{acts_shut, acts_told, asks, by_far, by_host, by_loader}
use Rattle.gb_laws.proofs.points.Points.{changed, tells, turns}
use Rattle.gb_laws.proofs.{points.Awaited.awaited-rest, steps.LoadFailures.load-fails}
use Rattle.gb_laws.proofs.{steps.StepActLaws.ActLaw, steps.StepActLaws.IsActing}
use Rattle.gb_laws.proofs.{steps.StepIdles.goes-host_follows}
use Rattle.gb_laws.proofs.links.DrainingKept.{FirstDrainsAt, draining-kept}
use Rattle.gb_laws.proofs.links.Draining.{FirstDrains}

-- ---- requests that are late stay open until they are given up

-- a request is open, and its deadline came with the tick
pub record IsOverdue (m : Moment) (k : ℕ) (s : State) : Type 0 where
  pub unended : is_open k s.bus ≡ true
  pub late : IsLate m s k

-- at a tick a side of a connection is closed only where nothing is open on it
shut-idle : (m : Moment) (k millis : ℕ) (b : Bus) → m.event ≡ event.Tick millis → IsShutFor m k b
    → open_on k side.Ap b ≡ []
shut-idle m k millis b tick (disconnected i c l is at own) = absurd cc
shut-idle m k millis b tick (removed p i l n known live own) = let other = n.event in absurd cc
shut-idle m k millis b tick (idle none) = none

-- nothing ends then
shut-none : (k : ℕ) (b : Bus) → open_on k side.Ap b ≡ [] → (shut_down k b).outcomes ≡ b.outcomes
shut-none k b none = ap (λ ns. all_ended ns outcome.Disconnected b.outcomes) (empty _ (λ n i.
    let o = in-open_requests (is_of k side.Ap) closed n i in
    subst (IsIn n) none (open_requests-in (is_of k side.Ap) b n o.0 o.1 o.2 o.3)))
  where
    closed : Bus
    closed = with_connection k (λ c. record c { shut = true }) b

    empty : (ns : List ℕ) → ((n : ℕ) → IsIn n ns → ⊥) → ns ≡ []
    empty [] h = refl
    empty (n ∷ ns) h = absurd (h n (inl refl))

open-sent : (d : Draft) (label : ℕ) (b : Bus) (k : ℕ) → is_open k b ≡ true
    → is_open k (sent d label b) ≡ true
open-sent d label b k h =
    let o = opened k b h in
    is-open k (sent d label b) o.0 (sent-request d label b k o.0 o.1) (free o.0 o.1 o.2 d.oneway)
  where
    free : (r : Request) → request_of k b ≡ Some r → outcome_of k b ≡ None
        → (t : Bool) → lookup k (cond t ((next_number b, outcome.Sent) ∷ b.outcomes)
        b.outcomes) ≡ None
    free r made none false = none
    free r made none true =
        lookup-past (next_number b) k outcome.Sent b.outcomes
        (λ e. absurd (omega (arith, nth-within k b.requests r made, e))) ∙ none

overdue-sent : (m : Moment) (d : Draft) (label k : ℕ) (s : State) → IsOverdue m k s
    → IsOverdue m k (record s { bus = sent d label s.bus })
overdue-sent m d label k s h = record {
  unended = open-sent d label s.bus k h.unended;
  late = record {
    millis = h.late.millis;
    request = h.late.request;
    event = h.late.event;
    made = sent-request d label s.bus k h.late.request h.late.made;
    due = h.late.due;
  };
}

-- where requests, outcomes and the time stay
overdue-same : (m : Moment) (k : ℕ) {s t : State} → t.bus.requests ≡ s.bus.requests
    → t.bus.outcomes ≡ s.bus.outcomes → t.now ≡ s.now → IsOverdue m k s → IsOverdue m k t
overdue-same m k {s} {t} requests outcomes now h = record {
  unended =
      let o = opened k s.bus h.unended in
      is-open k t.bus o.0 (ap (nth k) requests ∙ o.1) (ap (lookup k) outcomes ∙ o.2);
  late = record {
    millis = h.late.millis;
    request = h.late.request;
    event = h.late.event;
    made = ap (nth k) requests ∙ h.late.made;
    due = omega (arith, h.late.due, now);
  };
}

overdue-kept : (m : Moment) (k : ℕ) (a : Point) (x : Change m a) → IsActing m a x
    → IsOverdue m k a.state → IsOverdue m k (changed m a x).state
overdue-kept m k a (tells e quiet) is h = h
overdue-kept m k a (asks d c label free live drawn (by_host q rest at same none)) is h =
    overdue-sent m d label k a.state h
overdue-kept m k a (asks d c label free live drawn (by_far who on unloaded)) is h =
    overdue-sent m d label k a.state h
overdue-kept m k a (asks d c label free live drawn (by_loader x going who on)) is h = absurd is
overdue-kept m k a (turns e free untouched none cause) is h =
    overdue-same m k refl refl refl h
overdue-kept m k a (acts_told e rest at quiet) is h = h
overdue-kept m k a (acts_shut j rest free at cause) is h =
    overdue-same m k refl (shut-none j a.state.bus
    (shut-idle m j h.late.millis a.state.bus h.late.event cause)) refl h
overdue-kept m k a (acts_left j rest free untouched at) is h =
    overdue-same m k refl refl refl h
overdue-kept m k a (acts_made w q rest free at) is h = overdue-same m k refl refl refl h
overdue-kept m k a (acts_asked q n rest at) is h =
    let r = awaited-rest q.purpose n in
    overdue-same m k
    (ap (λ (b : Bus). b.requests) r.bus) (ap (λ (b : Bus). b.outcomes) r.bus) r.now h
overdue-kept m k a (acts_failed q rest at quiet) is h = overdue-same m k refl refl refl h
overdue-kept m k a _ is h = absurd is

abbrev overdue : (m : Moment) (k : ℕ) → ActLaw m
overdue m k = record {
  holds = λ a. FirstDrainsAt a × IsOverdue m k a.state;
  kept = λ a x is h. (draining-kept a x h.0, overdue-kept m k a x is h.1);
}

-- another request stays overdue where one is given up
overdue-after : (m : Moment) (n k : ℕ) (s : State) → n < k → FirstDrains s.host.links
    → IsOverdue m k s → IsOverdue m k (gives_up outcome.Timeout n s).state
unfolding machine_opened
overdue-after m n k s less first h =
    let followed = host_follows n outcome.Timeout given_up in
    let fails = load-fails n outcome.Timeout followed.state (λ won. absurd (other won.0 won.1)) in
    overdue-same m k (ap (λ (t : State). t.bus.requests) fails.state)
    (ap (λ (t : State). t.bus.outcomes) fails.state) (ap (λ (t : State). t.now) fails.state)
    (goes-host_follows m (overdue m k) (λ a h. h.0) n outcome.Timeout given_up (λ r p e. absurd cc)
    [] (
      first,
      record {
        unended =
            let o = opened k s.bus h.unended in
            is-open k (gave_up n outcome.Timeout s.bus) o.0 o.1
            (lookup-past n k outcome.Timeout s.bus.outcomes (λ e. absurd (omega (arith, less, e)))
            ∙ o.2);
        late = record {
          millis = h.late.millis;
          request = h.late.request;
          event = h.late.event;
          made = h.late.made;
          due = h.late.due;
        };
      },
    )).1
  where
    given_up : State
    given_up = record s { bus = gave_up n outcome.Timeout s.bus }

    other : (payload : List ℕ) → outcome.Timeout ≡ outcome.Answered 0 payload → ⊥
    other payload e = absurd cc

-- the others are overdue still
pub overdue-others : (m : Moment) (n : ℕ) (ks : List ℕ) (s : State) → FirstDrains s.host.links
    → Each (λ k. n < k) ks
    → Each (λ k. IsOverdue m k s) ks
    → Each (λ k. IsOverdue m k (gives_up outcome.Timeout n s).state) ks
overdue-others m n [] s first above late = tt
overdue-others m n (k ∷ ks) s first above late =
    (overdue-after m n k s above.0 first late.0, overdue-others m n ks s first above.1 late.1)

-- the requests that are due by a time
abbrev pub due_by : ℕ → State → List ℕ
due_by now s = open_requests (is_due now) s.bus

-- at first those are overdue that are due after the tick
pub overdue-first : (m : Moment) (millis : ℕ) → m.event ≡ event.Tick millis
    → Each (λ n. IsOverdue m n (later_by millis m.before)) (due_by (m.before.now + millis) m.before)
overdue-first m millis is = all due (λ n i. i)
  where
    due : List ℕ
    due = due_by (m.before.now + millis) m.before

    late : (n : ℕ) → IsIn n due → IsOverdue m n (later_by millis m.before)
    late n i =
        let o = in-open_requests (is_due (m.before.now + millis)) m.before.bus n i in record {
          unended = is-open n m.before.bus o.0 o.1 o.3;
          late = record {
            millis = millis;
            request = o.0;
            event = is;
            made = o.1;
            due = passed o.0.deadline (m.before.now + millis) o.2;
          };
        }
      where
        passed : (x y : ℕ) → nat_le x y ≡ true → x ≤ y
        passed x y h = grind (arith, nat_tests)

    all : (ns : List ℕ) → ((n : ℕ) → IsIn n ns → IsIn n due)
        → Each (λ n. IsOverdue m n (later_by millis m.before)) ns
    all [] within = tt
    all (n ∷ ns) within = (late n (within n (inl refl)), all ns (λ k i. within k (inr i)))
