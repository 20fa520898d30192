-- Where the enumeration of an interface waits for its module, or is done, none of its requests
-- waits toward the supervisory controller: at each point of a step.
use Rattle.std.proofs.Common.{Bool, List, None, Some, ap, arith, false, inl, inr, refl}
use Rattle.std.proofs.Common.{subst, sym, true, ℕ, ⊎_elim, [], ◌∙◌, ◌∷◌, ◌≡◌}
use Rattle.std.specs.Prelude.{is_some, not, ◌&&◌}
use Rattle.gb_base.specs.declared.interface.Interface.{Interface}
use Rattle.gb_base.specs.declared.steps.{Purpose.Purpose, SequenceStep.SequenceStep}
use Rattle.gb_machine.specs.Turns.{Act, Asking}
use Rattle.gb_machine.specs.Waits.{awaited, awaits_nothing}
use Rattle.gb_machine.specs.{Bus.Bus, Host.Host, Host.interface_of}
use Rattle.gb_machine.specs.{HostActs.host_draft, LawsBus.is_awaited}
use Rattle.gb_machine.specs.{Members.IsIn, Runs.Moment, Sending.requested, Sending.sent}
use Rattle.gb_machine.specs.{SequenceSteps.asks_control, SequenceSteps.is_enumeration, State.State}
use Rattle.gb_machine.specs.{SvcQueues.is_enumeration_request}
use Rattle.gb_invariants.proofs.Awaiting.{none-some, not-both}
use Rattle.gb_invariants.proofs.HostChanges.{Notice, turn_of}
use Rattle.gb_invariants.proofs.HostChanges.{at_insertion}
use Rattle.gb_laws.proofs.enumerations.AskedWaits.{AsksIn, WaitsFewer, asks_in, opens_in}
use Rattle.gb_laws.proofs.enumerations.EnumNone.{IsNone, none-enums, none-sent}
use Rattle.gb_laws.proofs.links.LinkEnds.{waited-due}
use Rattle.gb_laws.proofs.links.Waited.{IsWaitedBy, waited-enum}
use Rattle.gb_laws.proofs.links.Links.{ArePending, HostFits, IsDue, IsDueBy, IsFormed, IsResting}
use Rattle.gb_laws.proofs.points.PointParts.{Basis, IsCaused, Point}
use Rattle.gb_laws.proofs.removals.QuietAwaited.{none-over}
use Rattle.gb_laws.proofs.{enumerations.Asked.turn-waits, enumerations.EnumDone.IsDone}
use Rattle.gb_laws.proofs.{enumerations.EnumRequests.formed-enumerates}
use Rattle.gb_laws.proofs.{links.LinkKept.InsertsAbsent, links.LinkKept.LinkedAt}
use Rattle.gb_laws.proofs.{marks.MarkMoments.present-some}
use Rattle.gb_laws.proofs.{points.Points.IsOver, removals.Quiet.IsQuiet, svc.SvcMoves.FarMoves}
use Rattle.gb_laws.proofs.{svc.SvcThere.There}
use Rattle.gb_laws.proofs.enumerations.EnumTurns.{TurnEnums, turn-enums}

-- A step may be asked: the enumeration isn't done, and for one of the module nothing waits.
abbrev pub May : ℕ → List Interface → Bus → SequenceStep → Type 0
May i xs b step = (IsDone i xs → ⊥) × (asks_control step ≡ true → IsNone i b)

abbrev MayAt : ℕ → Point → SequenceStep → Type 0
MayAt i a step = May i a.state.host.interfaces a.state.bus step

pub record IsSettled (i : ℕ) (a : Point) : Type 0 where
  pub done : IsDone i a.state.host.interfaces → IsNone i a.state.bus
  pub waits : (x : Interface) → IsIn x a.state.host.interfaces → x.intf ≡ i
      → (w : ℕ × SequenceStep) → x.awaits ≡ Some w → MayAt i a w.1
  pub due : (q : Asking) → AsksIn q a.pending → q.purpose.intf ≡ i
      → is_enumeration q.purpose.step ≡ true → MayAt i a q.purpose.step

-- ---- what stays

may-on : (i : ℕ) (a b : Point) (step : SequenceStep) → (IsNone i a.state.bus → IsNone i b.state.bus)
    → (IsDone i b.state.host.interfaces → IsDone i a.state.host.interfaces) → MayAt i a step
    → MayAt i b step
may-on i a b step none back h = (λ d. h.0 (back d), λ e. none (h.1 e))

pub settled-still : {i : ℕ} {a b : Point} → (IsNone i a.state.bus → IsNone i b.state.bus)
    → (IsDone i b.state.host.interfaces → IsDone i a.state.host.interfaces)
    → WaitsFewer a.state.host b.state.host
    → ((q : Asking) → AsksIn q b.pending → AsksIn q a.pending) → IsSettled i a → IsSettled i b
settled-still {i} {a} {b} none back fewer pending h = record {
  done = λ d. none (h.done (back d));
  waits = λ x j at w e. let was = fewer x j w e in
      may-on i a b w.1 none back (h.waits was.was was.known (was.intf ∙ at) w (was.awaits ∙ e));
  due = λ q j at s. may-on i a b q.purpose.step none back (h.due q (pending q j) at s);
}

-- ---- a sequence asks

-- it is a request of the enumeration to the supervisory controller
record IsStep (i : ℕ) (q : Asking) : Type 0 where
  enumeration : is_enumeration q.purpose.step ≡ true
  svc : asks_control q.purpose.step ≡ false
  at : q.purpose.intf ≡ i

pub settled-asked : (i : ℕ) (a : Point) {b : Point} (q : Asking) (rest : List Act) (label : ℕ) →
    Basis a → LinkedAt a → There a.state.bus
    → FarMoves a.state.bus (sent (host_draft q a.state.now) label a.state.bus)
    → a.pending ≡ Act.Ask q ∷ rest
    → b.state ≡ record a.state { bus = sent (host_draft q a.state.now) label a.state.bus }
    → b.pending ≡ a.pending → IsSettled i a → IsSettled i b
settled-asked i a {b} q rest label basis links there moves pending state same h = record {
  done = λ d.
      let k = subst (λ (t : State). IsDone i t.host.interfaces) state d in
      onto (none-sent i a (host_draft q a.state.now) label basis moves
      (λ one own is. (may (own-step one is)).0 k) (h.done k));
  waits = λ x j at w e.
      let k = subst (λ (t : State). IsIn x t.host.interfaces) state j in
      let m = h.waits x k at w e in (
        λ d. m.0 (subst (λ (t : State). IsDone i t.host.interfaces) state d),
        λ c. onto (none-sent i a (host_draft q a.state.now) label basis moves
            (λ one own is. idle x k at w e (own-step one is)) (m.1 c)),
      );
  due = λ p j at s.
      let is = alone p (subst (AsksIn p) (same ∙ pending ∙ ap (λ acts. Act.Ask q ∷ acts)
      (subst (ArePending a.state.host) pending links.pending).0.1) j) in
      subst (λ (v : Asking). MayAt i b v.purpose.step) is
      (own (ap (λ (v : Asking). v.purpose.intf) is ∙ at)
      (ap (λ (v : Asking). is_enumeration v.purpose.step) is ∙ s));
}
  where
    onto : IsNone i (sent (host_draft q a.state.now) label a.state.bus) → IsNone i b.state.bus
    onto k = subst (λ (t : State). IsNone i t.bus) (sym state) k

    alone : (p : Asking) → AsksIn p (Act.Ask q ∷ []) → q ≡ p
    alone p (asks_in (inl e)) = same-ask_act p q e
      where
        same-ask_act : (x y : Asking) → Act.Ask x ≡ Act.Ask y → y ≡ x
        same-ask_act x y e = cc
    alone p (asks_in (inr j)) = absurd j
    alone p (opens_in w (inl e)) = absurd cc
    alone p (opens_in w (inr j)) = absurd j

    formed : IsFormed q
    formed = (subst (ArePending a.state.host) pending links.pending).0.2

    due : IsDue q.purpose.step q.purpose a.state.host
    due = (subst (ArePending a.state.host) pending links.pending).0.0

    svc : q.on ≡ 1 → (t : Bool) → asks_control q.purpose.step ≡ t → t ≡ false
    svc one false e = refl
    svc one true e = let low = formed.control e in absurd (omega (arith, low, one))

    left : (t u : Bool) → t && u ≡ true → t ≡ true
    left true u g = refl
    left false u g = absurd cc

    own-step : q.on ≡ 1
        → is_enumeration_request i (requested (host_draft q a.state.now) label) ≡ true → IsStep i q
    own-step one is =
        let s = svc one (asks_control q.purpose.step) refl in
        let p = formed-enumerates i q formed s is in record {
          enumeration = left (is_enumeration q.purpose.step) (not (asks_control q.purpose.step))
              p.0;
          svc = s;
          at = p.1;
        }

    may : IsStep i q → MayAt i a q.purpose.step
    may s = h.due q (subst (AsksIn q) (sym pending) (asks_in (inl refl))) s.at s.enumeration

    own : q.purpose.intf ≡ i → is_enumeration q.purpose.step ≡ true → MayAt i b q.purpose.step
    own at s =
        let m = h.due q (subst (AsksIn q) (sym pending) (asks_in (inl refl))) at s in (
          λ d. m.0 (subst (λ (t : State). IsDone i t.host.interfaces) state d),
          λ c. onto (none-sent i a (host_draft q a.state.now) label basis moves
              (λ one o is. not-both (asks_control q.purpose.step) c (own-step one is).svc) (m.1 c)),
        )

    idle : (x : Interface) → IsIn x a.state.host.interfaces → x.intf ≡ i
        → (w : ℕ × SequenceStep) → x.awaits ≡ Some w → IsStep i q → ⊥
    idle x k at w e s = by (is_enumeration q.purpose.step) s.enumeration due
      where
        by : (t : Bool) → t ≡ true → IsDueBy t q.purpose.step q.purpose a.state.host → ⊥
        by true f d = none-some (sym (d.idle x k (at ∙ sym s.at)) ∙ e)
        by false f d = absurd cc

-- ---- a turn

-- its interface waits for nothing then
waits-none : {b : Bus} (n : ℕ) {h : Host} (p : Purpose) → HostFits b h → awaited n h ≡ Some p
    → is_enumeration p.step ≡ true → IsResting p.intf (awaits_nothing p h).interfaces
waits-none n {h} p fits e s =
    by (is_enumeration p.step) s (waited-due n p fits e)
  where
    by : (t : Bool) → t ≡ true → IsDueBy t p.step p (awaits_nothing p h)
        → IsResting p.intf (awaits_nothing p h).interfaces
    by true f d = d.idle
    by false f d = absurd cc

enums-turned : (m : Moment) → InsertsAbsent m → (i : ℕ) (e : Notice) (a : Point) → Basis a
    → LinkedAt a → There a.state.bus → IsOver m e a.state.bus → IsCaused m e a.state.host
    → IsQuiet i a → IsSettled i a
    → TurnEnums i (MayAt i a) (IsNone i a.state.bus) a.state.host (turn_of e a.state.host)
enums-turned m absent i e a basis links there over cause quiet h =
    turn-enums i (MayAt i a) (IsNone i a.state.bus) e a.state.host (λ p r at s.
    let w = waited-enum r.number p links.host r.awaited s in
    let may = h.waits w.interface w.known (w.intf ∙ at) (r.number, p.step) w.awaits in
    let none = by r.number p w ((subst (λ f. IsOver m f a.state.bus) r.is over)
    r.result r.payload refl).0 at s may (asks_control p.step) refl in (
      none,
      λ step. (may.0, λ c. none),
      subst (λ k. IsResting k (awaits_nothing p a.state.host).interfaces) at
          (waits-none r.number p links.host r.awaited s),
    )) (λ p j is at. (λ d. fresh p j is at d, λ c. absurd cc))
  where
    fresh : (p j : ℕ) → e ≡ at_insertion p j → j ≡ i → IsDone i a.state.host.interfaces → ⊥
    fresh p j is at d =
        let c = subst (λ f. IsCaused m f a.state.host) is cause in
        not-both (is_some (interface_of i a.state.host)) (present-some a.state.host
        (record { interface = d.interface; known = d.known; is = d.intf }))
        (ap is_some (subst (λ k. interface_of k a.state.host ≡ None) at
        (c.absent (absent p c.count j c.noticed c.within))))

    by : (n : ℕ) (p : Purpose) (w : IsWaitedBy a.state.host n p) → is_awaited n a.state.bus ≡ false
        → p.intf ≡ i → is_enumeration p.step ≡ true → MayAt i a p.step → (t : Bool)
        → asks_control p.step ≡ t → IsNone i a.state.bus
    by n p w over at s may true e = may.1 e
    by n p w over at s may false e =
        none-enums i a.state.bus (none-over i n a basis links there over
        (quiet.waits w.interface w.known (w.intf ∙ at) (n, p.step) w.awaits
        (ap (λ t. t && not (asks_control p.step)) s ∙ ap not e)).last)

pub settled-turned : (m : Moment) → InsertsAbsent m → (i : ℕ) (e : Notice) (a b : Point)
    → Basis a → LinkedAt a → There a.state.bus → IsOver m e a.state.bus
    → IsCaused m e a.state.host → IsQuiet i a
    → b.state ≡ record a.state { host = (turn_of e a.state.host).host }
    → b.pending ≡ (turn_of e a.state.host).acts → IsSettled i a → IsSettled i b
settled-turned m absent i e a b basis links there over cause quiet state pending h = record {
  done = λ d. onto (⊎_elim (λ o. h.done o) (λ c. c.0) (t.done (back d)));
  waits = λ x j at w f.
      let k = subst (λ (s : State). IsIn x s.host.interfaces) state j in
      let was = turn-waits e a.state.host x k w f in
      let may = h.waits was.was was.known (was.intf ∙ at) w (was.awaits ∙ f) in (
        λ d. ⊎_elim may.0 (λ c. none-some (sym (c.2 x k at) ∙ f)) (t.done (back d)),
        λ c. onto (may.1 c),
      );
  due = λ q j at s.
      let k = subst (AsksIn q) pending j in
      let may = t.asks q k at s in
      (λ d. ⊎_elim may.0 (λ c. c.1 q k) (t.done (back d)), λ c. onto (may.1 c));
}
  where
    t : TurnEnums i (MayAt i a) (IsNone i a.state.bus) a.state.host (turn_of e a.state.host)
    t = enums-turned m absent i e a basis links there over cause quiet h

    onto : IsNone i a.state.bus → IsNone i b.state.bus
    onto k = subst (λ (s : State). IsNone i s.bus) (sym state) k

    back : IsDone i b.state.host.interfaces → IsDone i (turn_of e a.state.host).host.interfaces
    back d = subst (λ (s : State). IsDone i s.host.interfaces) state d
