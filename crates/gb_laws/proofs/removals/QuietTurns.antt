-- What is said of an enumeration while a removal waits is kept by what the application processor
-- does: its turns, what its sequences wait for, and where no identifier is left.
use Rattle.std.proofs.Common.{List, None, Some, ap, inl, inr, refl, subst, sym, true, ℕ, ⊎_elim, []}
use Rattle.std.proofs.Common.{◌∙◌, ◌≡◌}
use Rattle.gb_base.specs.declared.steps.{Purpose.Purpose, SequenceStep.SequenceStep}
use Rattle.std.specs.Prelude.{not}
use Rattle.gb_machine.specs.SequenceSteps.{asks_control, is_enumeration}
use Rattle.gb_machine.specs.Turns.{Act, Asking}
use Rattle.gb_machine.specs.{Failures.unsent, Host.Host, HostActs.with_awaited}
use Rattle.gb_machine.specs.{LawsBus.is_awaited, Members.IsIn, Ports.level_of, Runs.Moment}
use Rattle.gb_machine.specs.{State.State}
use Rattle.gb_invariants.proofs.{Awaiting.none-some, Awaiting.not-both, HostChanges.IsAnswered}
use Rattle.gb_invariants.proofs.HostChanges.{Notice, turn_of}
use Rattle.gb_invariants.proofs.Outcomes.{both-true}
use Rattle.gb_laws.proofs.enumerations.Asked.{asks-calm, turn-waits, waits-unsent}
use Rattle.gb_laws.proofs.enumerations.AskedWaits.{AsksIn, asks-more, is_power_step, no-asks}
use Rattle.gb_laws.proofs.points.Points.{IsAsking, IsOver, asking, opening}
use Rattle.gb_laws.proofs.removals.Quiet.{IsCalm, IsQuiet, SameView, WaitsOn, calm-still, low-still}
use Rattle.gb_laws.proofs.removals.Quiet.{quiet-still, waits-still}
use Rattle.gb_laws.proofs.{points.Awaited.awaited-rest, links.LinkActs.awaited-interface}
use Rattle.gb_laws.proofs.{links.LinkKept.LinkedAt}
use Rattle.gb_laws.proofs.{points.PointParts.Basis, points.PointParts.Point}
use Rattle.gb_laws.proofs.{removals.QuietAwaited.none-over}
use Rattle.gb_laws.proofs.{links.Waited.waited-enum, removals.QuietKept.view-rest}
use Rattle.gb_laws.proofs.{svc.SvcThere.There}

-- ---- turns

-- a step of the supervisory controller that was answered leaves nothing of the enumeration there
answered-calm : (m : Moment) (i : ℕ) (e : Notice) (a : Point) → Basis a → LinkedAt a
    → There a.state.bus → IsOver m e a.state.bus → IsQuiet i a → (p : Purpose)
    → IsAnswered e a.state.host p → p.intf ≡ i → is_power_step p.step ≡ true → IsCalm i a
answered-calm m i e a basis links there over h p r at s =
    let w = waited-enum r.number p links.host r.awaited
    (both-true (is_enumeration p.step) (not (asks_control p.step)) s).0 in
    let waits = h.waits w.interface w.known (w.intf ∙ at) (r.number, p.step) w.awaits s in
    let done = ((subst (λ f. IsOver m f a.state.bus) r.is over) r.result r.payload refl).0 in (
      none-over i r.number a basis links there done waits.last,
      λ hot. not-both (is_awaited r.number a.state.bus) (waits.quiet hot).awaited done,
    )

-- where the application processor takes notice of something
pub quiet-turned : (m : Moment) (i : ℕ) (e : Notice) (a : Point) {b : Point} → Basis a
    → LinkedAt a → There a.state.bus → IsOver m e a.state.bus
    → b.state.bus ≡ a.state.bus → b.state.ports ≡ a.state.ports
    → b.state.past.pulled ≡ a.state.past.pulled → b.hand ≡ a.hand
    → b.asked ≡ a.asked → b.state.host ≡ (turn_of e a.state.host).host
    → b.pending ≡ (turn_of e a.state.host).acts → IsQuiet i a → IsQuiet i b
quiet-turned m i e a {b} basis links there over bus ports pulled hand asked host pending h =
    let v = view-rest basis bus (ap (level_of i) ports) pulled (λ x e. sym hand ∙ e) in record {
      low = low-still i a b v h.low;
      waits = λ x j at w f s.
          let was = turn-waits e a.state.host x
          (subst (λ (g : Host). IsIn x g.interfaces) host j) w f in
          waits-still i w.0 a b v (h.waits was.was was.known (was.intf ∙ at) w (was.awaits ∙ f) s);
      due = λ f q j at s. ⊎_elim (λ k. inl k) (λ c. inr (calm-still i a b v c))
          (asks-calm i (IsCalm i a) e a.state.host
          (answered-calm m i e a basis links there over h) q (subst (AsksIn q) pending j) at s);
      made = λ q n f at s. waits-still i n a b v (h.made q n (sym asked ∙ f) at s);
    }

-- where a sequence waits for the request that was made
pub quiet-awaited : (i : ℕ) (a : Point) {b : Point} (q : Asking) (n : ℕ) → Basis a
    → a.asked ≡ Some (q, n) → b.state ≡ with_awaited q.purpose n a.state → b.hand ≡ a.hand
    → b.asked ≡ None → b.pending ≡ [] → IsQuiet i a → IsQuiet i b
quiet-awaited i a {b} q n basis asked state hand none pending h = record {
  low = low-still i a b v h.low;
  waits = λ x j at w e s. waits-still i w.0 a b v (⊎_elim (λ o. h.waits x o at w e s)
      (λ u. subst (λ (y : ℕ × SequenceStep). WaitsOn i y.0 a) u.1 (h.made q n asked (u.0 ∙ at)
      (ap (λ (y : ℕ × SequenceStep). is_power_step y.1) u.1 ∙ s)))
      (awaited-interface q.purpose n a.state x w
      (subst (λ (t : State). IsIn x t.host.interfaces) state j) e));
  due = λ e r j at s. absurd (no-asks (subst (AsksIn r) pending j));
  made = λ r k e at s. absurd (none-some (sym none ∙ e));
}
  where
    v : SameView i a b
    v = view-rest basis (ap (λ (t : State). t.bus) state ∙ (awaited-rest q.purpose n).bus)
        (ap (λ (t : State). level_of i t.ports) state
        ∙ ap (level_of i) (awaited-rest q.purpose n).ports)
        (ap (λ (t : State). t.past.pulled) state ∙ (awaited-rest q.purpose n).pulled)
        (λ x e. sym hand ∙ e)

-- ---- no identifier is left

pub quiet-failed : (i : ℕ) (a : Point) {b : Point} (q : Asking) (rest : List Act) → Basis a
    → IsAsking q a.pending rest
    → b.state ≡ record a.state { host = (unsent q.purpose a.state.host).host }
    → b.hand ≡ a.hand → b.asked ≡ a.asked → b.pending ≡ rest → IsQuiet i a → IsQuiet i b
quiet-failed i a q rest basis is state hand asked pending h =
    quiet-still (view-rest basis (ap (λ (t : State). t.bus) state)
    (ap (λ (t : State). level_of i t.ports) state) (ap (λ (t : State). t.past.pulled) state)
    (λ x e. sym hand ∙ e))
    (λ x j w e. waits-unsent q.purpose a.state.host x
    (subst (λ (t : State). IsIn x t.host.interfaces) state j) w e)
    asked (λ r j. by is r (subst (AsksIn r) pending j)) h
  where
    by : IsAsking q a.pending rest → (r : Asking) → AsksIn r rest → AsksIn r a.pending
    by (asking e) r j = subst (AsksIn r) (sym e) (asks-more r (Act.Ask q) j)
    by (opening w e) r j = subst (AsksIn r) (sym e) (asks-more r (Act.Make w q) j)
