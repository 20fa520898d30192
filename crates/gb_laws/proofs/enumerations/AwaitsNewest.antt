-- What the enumeration of an interface waits for is the newest of its requests to
-- the supervisory controller.
use Rattle.std.proofs.Common.{Bool, List, None, Some, ap, arith, false, inl, inr, refl, subst}
use Rattle.std.proofs.Common.{sym, true, ℕ, ⊎_elim, [], ◌∙◌, ◌∷◌, ◌≡◌, ◌≤◌}
use Rattle.std.specs.Prelude.{◌&&◌}
use Rattle.gb_base.specs.declared.entry.Entry.{Entry}
use Rattle.gb_base.specs.declared.interface.Interface.{Interface}
use Rattle.gb_base.specs.declared.steps.SequenceStep.{SequenceStep}
use Rattle.gb_machine.proofs.Lists.{nth-within}
use Rattle.gb_machine.specs.Bus.{Bus, Request, next_number, request_of}
use Rattle.gb_machine.specs.Sending.{Draft, requested, sent}
use Rattle.gb_machine.specs.{HostActs.host_draft, LawsSvc.IsEnumeration, Members.IsIn}
use Rattle.gb_machine.specs.{Refusals.is_reserved, Runs.Moment, SequenceSteps.asks_control}
use Rattle.gb_machine.specs.{SequenceSteps.is_enumeration, State.State, Turns.Act, Turns.Asking}
use Rattle.gb_invariants.proofs.Awaiting.{none-some, not-both, same-some, sent-made}
use Rattle.gb_laws.proofs.links.LinkRuns.{LinkedTo, linked-over, linked-throughout, start-absent}
use Rattle.gb_laws.proofs.links.Links.{ArePending, IsDue, IsDueBy, IsFormed}
use Rattle.gb_laws.proofs.points.Points.{Change, IsAskedBy, IsPlain, Law, acts_asked, asks, by_far}
use Rattle.gb_laws.proofs.points.Points.{by_loader}
use Rattle.gb_laws.proofs.points.Points.{by_host, changed, names, turns, upon}
use Rattle.gb_laws.proofs.runs.Runs.{HoldsByMoments, Keeps, throughout, weaker}
use Rattle.gb_laws.proofs.{enumerations.AskedWaits.WaitsFewer, enumerations.AskedWaits.same-waits}
use Rattle.gb_laws.proofs.{points.Awaited.awaited-rest}
use Rattle.gb_laws.proofs.{enumerations.Asked.turn-waits, enumerations.AwaitsOwn.waiting-interface}
use Rattle.gb_laws.proofs.{points.ChangeHosts.waits-kept, creations.CreatingKept.far-side}
use Rattle.gb_laws.proofs.{enumerations.EnumRequests.enumeration-reserved}
use Rattle.gb_laws.proofs.{enumerations.EnumRequests.formed-enumerates}
use Rattle.gb_laws.proofs.{links.LinkActs.awaited-interface, links.LinkKept.InsertsAbsent}
use Rattle.gb_laws.proofs.{links.LinkKept.LinkedAt}
use Rattle.gb_laws.proofs.{links.LinkLaw.link_law, points.PointParts.Point}
use Rattle.gb_laws.proofs.{points.PointParts.resting, steps.Steps.over-step}
use Rattle.gb_laws.specs.OwnWaits.{AwaitsNewest}

-- no request of an enumeration was made behind request n
abbrev pub IsNewest : ℕ → ℕ → Bus → Type 0
IsNewest i n b =
    (m : ℕ) (r : Request) → request_of m b ≡ Some r → IsEnumeration i r → m ≤ n

-- What interfaces wait for is, and what one is to wait for.
pub record WaitsNewest (a : Point) : Type 0 where
  pub waits : (x : Interface) → IsIn x a.state.host.interfaces → (w : ℕ × SequenceStep)
      → x.awaits ≡ Some w → asks_control w.1 ≡ false → IsNewest x.intf w.0 a.state.bus
  pub asked : (q : Asking) (n : ℕ) → a.asked ≡ Some (q, n)
      → is_enumeration q.purpose.step ≡ true → IsNewest q.purpose.intf n a.state.bus

-- ---- where no request of an enumeration is made and interfaces wait for no more

-- a request of an enumeration was made before
abbrev MadeBefore : Bus → Bus → Type 0
MadeBefore b after =
    (i m : ℕ) (r : Request) → request_of m after ≡ Some r → IsEnumeration i r
    → request_of m b ≡ Some r

newest-still : {a b : Point} → MadeBefore a.state.bus b.state.bus
    → WaitsFewer a.state.host b.state.host → b.asked ≡ a.asked → WaitsNewest a → WaitsNewest b
newest-still before fewer same h = record {
  waits = λ x j w e on m r made of. let was = fewer x j w e in
      h.waits was.was was.known w (was.awaits ∙ e) on m r (before x.intf m r made of)
      (subst (λ i. IsEnumeration i r) (sym was.intf) of);
  asked = λ q n e s m r made of.
      h.asked q n (sym same ∙ e) s m r (before q.purpose.intf m r made of) of;
}

-- ---- a request is made

-- one that is none of an enumeration
sent-none : (d : Draft) (label : ℕ) (b : Bus)
    → ((i : ℕ) → IsEnumeration i (requested d label) → ⊥) → MadeBefore b (sent d label b)
sent-none d label b none i m r made of = ⊎_elim (λ o. o)
    (λ new. absurd (none i (subst (IsEnumeration i) new.1 of))) (sent-made d label b m r made)

pub plain-none : (a : Point) (d : Draft) (label : ℕ) → LinkedAt a → IsPlain a.state d → (i : ℕ)
    → IsEnumeration i (requested d label) → ⊥
plain-none a d label links (inl plain) i of = not-both (is_reserved d.kind)
    (enumeration-reserved i d.kind d.payload of.enumerates) plain.0
plain-none a d label links (inr on) i of =
    let low = (links.host.links.numbered on.0 on.1).from_two in
    let same = on.2 in
    let one = of.connection in
    omega (arith, low, same, one)

-- one that a sequence asks
host-newest : (a : Point) {b : Point} (q : Asking) (rest : List Act) (label : ℕ) → LinkedAt a
    → a.pending ≡ Act.Ask q ∷ rest → a.asked ≡ None
    → b.state ≡ record a.state { bus = sent (host_draft q a.state.now) label a.state.bus }
    → b.asked ≡ Some (q, next_number a.state.bus) → WaitsNewest a → WaitsNewest b
host-newest a q rest label links pending none state asked h = record {
  waits = λ x j w e on m r made of.
      let k = subst (λ (t : State). IsIn x t.host.interfaces) state j in
      ⊎_elim (λ old. h.waits x k w e on m r old of)
      (λ new. absurd (idle x k w e (subst (IsEnumeration x.intf) new.1 of)))
      (sent-made (host_draft q a.state.now) label a.state.bus m r
      (subst (λ (t : State). request_of m t.bus ≡ Some r) state made));
  asked = λ p n e s m r made of.
      let is = same-some (q, next_number a.state.bus) (p, n) (sym asked ∙ e) in
      let number = ap (λ (w : Asking × ℕ). w.1) is in
      ⊎_elim
      (λ old. let low = nth-within m a.state.bus.requests r old in omega (arith, low, number))
      (λ new. let at = new.0 in omega (arith, at, number))
      (sent-made (host_draft q a.state.now) label a.state.bus m r
      (subst (λ (t : State). request_of m t.bus ≡ Some r) state made));
}
  where
    due : IsDue q.purpose.step q.purpose a.state.host
    due = (subst (ArePending a.state.host) pending links.pending).0.0

    formed : IsFormed q
    formed = (subst (ArePending a.state.host) pending links.pending).0.2

    svc : q.on ≡ 1 → (t : Bool) → asks_control q.purpose.step ≡ t → t ≡ false
    svc one false e = refl
    svc one true e = let low = formed.control e in absurd (omega (arith, low, one))

    -- its interface waits for nothing
    idle : (x : Interface) → IsIn x a.state.host.interfaces → (w : ℕ × SequenceStep)
        → x.awaits ≡ Some w → IsEnumeration x.intf (requested (host_draft q a.state.now) label) → ⊥
    idle x j w e of =
        let p = formed-enumerates x.intf q formed
        (svc of.connection (asks_control q.purpose.step) refl) of.enumerates in
        by (is_enumeration q.purpose.step) (left (is_enumeration q.purpose.step) _ p.0) due p.1
      where
        left : (t u : Bool) → t && u ≡ true → t ≡ true
        left true u g = refl
        left false u g = absurd cc

        by : (t : Bool) → t ≡ true → IsDueBy t q.purpose.step q.purpose a.state.host
            → q.purpose.intf ≡ x.intf → ⊥
        by true g d at = none-some (sym (d.idle x j (sym at)) ∙ e)
        by false g d at = absurd cc

-- ---- each single change

pub newest-kept : (m : Moment) (a : Point) (x : Change m a) → LinkedAt a → WaitsNewest a
    → WaitsNewest (changed m a x)
newest-kept m a (asks d c label free live drawn who) links h = by who
  where
    by : (w : IsAskedBy m a c d) → WaitsNewest (changed m a (asks d c label free live drawn w))
    by (by_far far on unloaded) =
        newest-still (sent-none d label a.state.bus (λ i of. far-side m a d c far of.side))
        (same-waits a.state.host) refl h
    by (by_loader x going far on) =
        newest-still (sent-none d label a.state.bus (λ i of. far-side m a d c far of.side))
        (same-waits a.state.host) refl h
    by (by_host q rest is draft none) =
        host-newest a q rest label links is none
        (ap (λ (y : Draft). record a.state { bus = sent y label a.state.bus }) draft) refl h
newest-kept m a (names name d c label free live drawn host) links h =
    newest-still
    (sent-none d label a.state.bus (plain-none a d label links host.1)) (same-waits a.state.host)
    refl h
newest-kept m a (turns e free untouched none cause) links h =
    newest-still (λ i n r made of. made) (turn-waits e a.state.host) refl h
newest-kept m a (acts_asked q n rest is) links h = record {
  waits = λ x j w e on. subst (IsNewest x.intf w.0) (sym (awaited-rest q.purpose n).bus)
      (⊎_elim (λ o. h.waits x o w e on)
      (λ u. subst (λ (y : ℕ × SequenceStep). IsNewest x.intf y.0 a.state.bus) u.1
      (subst (λ k. IsNewest k n a.state.bus) u.0 (h.asked q n is.1 u.2)))
      (awaited-interface q.purpose n a.state x w j e));
  asked = λ p k e. absurd (none-some e);
}
newest-kept m a x links h =
    newest-still (λ i n r made of. made) (waits-kept m a x tt) refl h

-- ---- throughout

abbrev newest_law : (m : Moment) → InsertsAbsent m → Law m
newest_law m absent =
    upon (link_law m absent) WaitsNewest (λ a x g h. newest-kept m a x g.1 h)

pub record NewestTo (told : List Entry) (s : State) : Type 0 where
  pub links : LinkedTo told s
  pub newest : WaitsNewest (resting told s)

newest-over : Keeps NewestTo
newest-over m one h = record {
  links = linked-over m one h.links;
  newest = let r = (over-step m (newest_law m (start-absent m h.links)) one
      ((h.links.0, h.links.1), h.newest)).1.1 in record { waits = r.waits; asked = r.asked };
}

pub newest-throughout : HoldsByMoments NewestTo
newest-throughout = throughout NewestTo (record {
  links = linked-throughout [] tt;
  newest = record {
    waits = λ x j. absurd j;
    asked = λ q n e. absurd (none-some e);
  };
}) newest-over

-- An enumeration waits for the newest of its requests.
pub awaits-newest_by_moments : HoldsByMoments AwaitsNewest
awaits-newest_by_moments = weaker NewestTo AwaitsNewest (λ told s h i n m step r e asks made of.
    let x = waiting-interface i s.host (n, step) e in
    h.newest.waits x.0 x.1 (n, step) x.3 asks m r made
    (subst (λ k. IsEnumeration k r) (sym x.2) of)) newest-throughout
