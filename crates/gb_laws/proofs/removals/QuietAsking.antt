-- What is said of an enumeration while a removal waits is kept where a request of a
-- sequence is made.
use Rattle.std.proofs.Common.{Bool, List, None, Some, ap, append-nil, arith, cond, false, inl, refl}
use Rattle.std.proofs.Common.{subst, sym, true, ℕ, ⊎_elim, [], ◌++◌, ◌∙◌, ◌∷◌, ◌≡◌, ◌≢◌, ◌≤◌, ◌⊎◌}
use Rattle.std.specs.Prelude.{not}
use Rattle.gb_base.specs.declared.end.Side.TheVariants as side
use Rattle.gb_base.specs.declared.interface.Interface.{Interface}
use Rattle.gb_base.specs.declared.steps.{Purpose.Purpose, SequenceStep.SequenceStep}
use Rattle.gb_base.specs.declared.steps.SequenceStep.TheVariants as steps
use Rattle.gb_formats.specs.SvcRecords.{read_svc_ask}
use Rattle.gb_machine.specs.Bus.{Request, next_number, request_of}
use Rattle.gb_machine.specs.Sending.{Draft, requested, sent}
use Rattle.gb_machine.specs.SequenceSteps.{asks_control, is_enumeration, kind_of}
use Rattle.gb_machine.specs.{Host.Host, HostActs.host_draft, Lists.behind_first, Members.IsIn}
use Rattle.gb_machine.specs.{Ports.level_of, State.State, SvcQueues.enumerates, SvcQueues.svc_items}
use Rattle.gb_machine.specs.{Turns.Act, Turns.Asking}
use Rattle.gb_invariants.proofs.Awaiting.{none-some, not-both, same-some, sent-request}
use Rattle.gb_invariants.proofs.{BusChanges.KeepsRequests, Lists.each-append, Outcomes.both-true}
use Rattle.gb_laws.proofs.enumerations.AskedWaits.{AsksIn, asks_in, is_power_step}
use Rattle.gb_laws.proofs.links.Links.{ArePending, IsDue, IsDueBy, IsFormed}
use Rattle.gb_laws.proofs.removals.Quiet.{IsCalm, IsHot, IsLast, IsQuiet, SameView, WaitsOn}
use Rattle.gb_laws.proofs.removals.Quiet.{last-pushed}
use Rattle.gb_laws.proofs.removals.Quiet.{low-still, removed-same, starts-pushed, waits-still}
use Rattle.gb_laws.proofs.removals.QuietBuses.{asked-put, enums-asked, new-unanswered}
use Rattle.gb_laws.proofs.{enumerations.EnumRequests.formed-enumerates}
use Rattle.gb_laws.proofs.{enumerations.EnumRequests.power-enumerates}
use Rattle.gb_laws.proofs.{enumerations.Enums.AreStarts, enumerations.Enums.enums}
use Rattle.gb_laws.proofs.{links.LinkKept.LinkedAt, points.PointParts.Basis}
use Rattle.gb_laws.proofs.{points.PointParts.Point, removals.QuietKept.view-asked}
use Rattle.gb_laws.proofs.{removals.QuietKept.view-plain}
use Rattle.gb_laws.proofs.{svc.SvcThere.There}

-- ---- requests

-- a step that asks for power waits for nothing before it is asked
idle-power : (step : SequenceStep) (p : Purpose) (h : Host) → is_power_step step ≡ true
    → IsDue step p h → (x : Interface) → IsIn x h.interfaces → x.intf ≡ p.intf → x.awaits ≡ None
idle-power step p h s due x j at = by (is_enumeration step) refl due
  where
    by : (t : Bool) → is_enumeration step ≡ t → IsDueBy t step p h → x.awaits ≡ None
    by true e next = next.idle x j at
    by false e idle = absurd (not-both (is_enumeration step)
        (both-true (is_enumeration step) (not (asks_control step)) s).0 e)

-- the request of a pending act is made
pub quiet-asked : (i : ℕ) (a : Point) {b : Point} (q : Asking) (rest : List Act) (label : ℕ) → Basis
    a → LinkedAt a → There a.state.bus → a.pending ≡ Act.Ask q ∷ rest → a.hand ≡ None
    → a.asked ≡ None
    → b.state ≡ record a.state { bus = sent (host_draft q a.state.now) label a.state.bus }
    → b.hand ≡ a.hand → b.asked ≡ Some (q, next_number a.state.bus) → b.pending ≡ a.pending
    → IsQuiet i a → IsQuiet i b
quiet-asked i a {b} q rest label basis links there pending free none state hand asked same h =
    by (asks_control q.purpose.step) refl
  where
    d : Draft
    d = host_draft q a.state.now

    due : IsDue q.purpose.step q.purpose a.state.host
    due = (subst (ArePending a.state.host) pending links.pending).0.0

    formed : IsFormed q
    formed = (subst (ArePending a.state.host) pending links.pending).0.2

    bus : b.state.bus ≡ sent (host_draft q a.state.now) label a.state.bus
    bus = ap (λ (t : State). t.bus) state

    level : level_of i b.state.ports ≡ level_of i a.state.ports
    level = ap (λ (t : State). level_of i t.ports) state

    pulled : b.state.past.pulled ≡ a.state.past.pulled
    pulled = ap (λ (t : State). t.past.pulled) state

    host : (x : Interface) → IsIn x b.state.host.interfaces → IsIn x a.state.host.interfaces
    host x j = subst (λ (t : State). IsIn x t.host.interfaces) state j

    some-none : {w : Asking × ℕ} → Some w ≡ None → ⊥
    some-none e = absurd cc

    -- where the view stays
    still : SameView i a b → (q.purpose.intf ≡ i → is_power_step q.purpose.step ≡ true
        → WaitsOn i (next_number a.state.bus) b) → IsQuiet i b
    still v made = record {
      low = low-still i a b v h.low;
      waits = λ x j at w e s. waits-still i w.0 a b v (h.waits x (host x j) at w e s);
      due = λ e r j at s. absurd (some-none (sym asked ∙ e));
      made = λ r n e at s.
          let is = same-some (q, next_number a.state.bus) (r, n) (sym asked ∙ e) in
          subst (λ k. WaitsOn i k b) (ap (λ (w : Asking × ℕ). w.1) is)
          (made (ap (λ (w : Asking × ℕ). w.0.purpose.intf) is ∙ at)
          (ap (λ (w : Asking × ℕ). is_power_step w.0.purpose.step) is ∙ s));
    }

    control : (t : Bool) → asks_control q.purpose.step ≡ t → t ≡ true
        → is_power_step q.purpose.step ≡ true → ⊥
    control t e f s = not-both (asks_control q.purpose.step) (e ∙ f)
        (unmarked (asks_control q.purpose.step)
        (both-true (is_enumeration q.purpose.step) (not (asks_control q.purpose.step)) s).1)
      where
        unmarked : (u : Bool) → not u ≡ true → u ≡ false
        unmarked true g = absurd cc
        unmarked false g = refl

    two-one : (k : ℕ) → 2 ≤ k → k ≢ 1
    two-one k low e = omega (arith, low, e)

    -- what is asked isn't answered yet
    new : q.on ≡ 1 → IsLast (next_number a.state.bus) (enums i b.state.bus)
        → WaitsOn i (next_number a.state.bus) b
    new on last = record {
      last = last;
      quiet = λ hot. new-unanswered i a b (host_draft q a.state.now) label basis there free hand bus
          on refl refl;
    }

    enumerated : q.on ≡ 1 → enums i b.state.bus
        ≡ enums i a.state.bus ++ (cond (enumerates i (read_svc_ask q.kind q.payload))
        ((next_number a.state.bus, requested (host_draft q a.state.now) label) ∷ []) [] ++ [])
    enumerated on = ap (enums i) bus
        ∙ enums-asked i a (host_draft q a.state.now) label basis there on refl

    ap_same : q.on ≡ 1 → svc_items side.Ap b.state.bus ≡ svc_items side.Ap a.state.bus
    ap_same on = ap (svc_items side.Ap) bus
        ∙ (asked-put (host_draft q a.state.now) label basis there on).from

    keeps : KeepsRequests a.state.bus b.state.bus
    keeps n r made = ap (request_of n) bus
        ∙ sent-request (host_draft q a.state.now) label a.state.bus n r made

    hot-before : q.on ≡ 1 → IsHot i b → IsHot i a
    hot-before on hot = (
      sym (removed-same i a b (ap_same on) pulled) ∙ hot.0,
      sym level ∙ hot.1,
    )

    -- a request of the enumeration of the interface
    power : q.on ≡ 1 → is_power_step q.purpose.step ≡ true → q.purpose.intf ≡ i
        → enumerates i (read_svc_ask q.kind q.payload) ≡ true
        → (q.purpose.step ≡ steps.EnableVsys) ⊎ IsCalm i a → IsQuiet i b
    power on s at is may = record {
      low = record {
        restarts = subst (λ es. AreStarts (behind_first es)) (sym pushed) (⊎_elim
            (λ start. starts-pushed (enums i a.state.bus) _ h.low.restarts
            (formed.kind ∙ ap kind_of start))
            (λ calm. subst (λ es. AreStarts (behind_first (es ++ e ∷ []))) (sym calm.0) tt) may);
        low = λ r. subst (λ n. n ≤ 1) (sym level) (h.low.low
            (sym (removed-same i a b (ap_same on) pulled) ∙ r));
        starts = λ hot. subst AreStarts (sym pushed) (⊎_elim
            (λ start. each-append (λ (x : ℕ × Request). x.1.kind ≡ 0x21) (enums i a.state.bus)
            (e ∷ []) (h.low.starts (hot-before on hot)) (formed.kind ∙ ap kind_of start, tt))
            (λ calm. absurd (calm.1 (hot-before on hot))) may);
      };
      waits = λ x j where_ w f t. absurd (none-some (sym (idle-power q.purpose.step q.purpose
          a.state.host s due x (host x j) (where_ ∙ sym at)) ∙ f));
      due = λ f r j where_ t. absurd (some-none (sym asked ∙ f));
      made = λ r n f where_ t.
          let same_asked = same-some (q, next_number a.state.bus) (r, n) (sym asked ∙ f) in
          subst (λ k. WaitsOn i k b) (ap (λ (w : Asking × ℕ). w.1) same_asked)
          (new on (subst (IsLast (next_number a.state.bus)) (sym pushed)
          (last-pushed (next_number a.state.bus) (requested (host_draft q a.state.now) label)
          (enums i a.state.bus) refl)));
    }
      where
        e : ℕ × Request
        e = (next_number a.state.bus, requested (host_draft q a.state.now) label)

        pushed : enums i b.state.bus ≡ enums i a.state.bus
            ++ (next_number a.state.bus, requested (host_draft q a.state.now) label) ∷ []
        pushed = enumerated on ∙ ap (λ t. enums i a.state.bus ++ (cond t
            ((next_number a.state.bus, requested (host_draft q a.state.now) label) ∷ []) [] ++ []))
            is

    asks : AsksIn q a.pending
    asks = subst (AsksIn q) (sym pending) (asks_in (inl refl))

    -- where it isn't one of the interface's enumeration, that waits for no other
    plain : q.on ≡ 1 → SameView i a b → q.purpose.intf ≡ i → is_power_step q.purpose.step ≡ true
        → enumerates i (read_svc_ask q.kind q.payload) ≡ false
        → WaitsOn i (next_number a.state.bus) b
    plain on v at s is = ⊎_elim
        (λ start. absurd (not-both (enumerates i (read_svc_ask q.kind q.payload))
        (power-enumerates i q formed s (λ e. let other = sym start ∙ e in absurd cc) at) is))
        (λ calm. new on (subst (IsLast (next_number a.state.bus))
        (sym (enumerated on ∙ ap (λ t. enums i a.state.bus ++ (cond t
        ((next_number a.state.bus, requested (host_draft q a.state.now) label) ∷ []) [] ++ [])) is
        ∙ append-nil (enums i a.state.bus) ∙ calm.0)) tt)) (h.due none q asks at s)

    enumeration : q.on ≡ 1 → asks_control q.purpose.step ≡ false → (t : Bool)
        → enumerates i (read_svc_ask q.kind q.payload) ≡ t → IsQuiet i b
    enumeration on e true is =
        let f = formed-enumerates i q formed e is in
        power on f.0 f.1 is (h.due none q asks f.1 f.0)
    enumeration on e false is =
        let v = view-plain i a (host_draft q a.state.now) label basis there bus level pulled hand
        on refl
        is in
        still v (λ at s. plain on v at s is)

    by : (t : Bool) → asks_control q.purpose.step ≡ t → IsQuiet i b
    by true e = still (view-asked i a (host_draft q a.state.now) label basis bus level pulled hand
        (two-one q.on (formed.control e))) (λ at s. absurd (control true e refl s))
    by false e = enumeration (formed.on e) e (enumerates i (read_svc_ask q.kind q.payload)) refl
