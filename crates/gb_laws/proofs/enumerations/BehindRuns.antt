-- No request for a connection waits behind one of the enumeration of its interface, in each state
-- of a run.
use Rattle.std.proofs.Common.{Bool, List, ap, arith, false, inl, inr, refl, subst, sym, true, ℕ, []}
use Rattle.std.proofs.Common.{◌++◌, ◌∙◌, ◌∷◌, ◌≡◌}
use Rattle.gb_base.specs.declared.end.Side.TheVariants as side
use Rattle.gb_base.specs.declared.entry.Entry.{Entry}
use Rattle.gb_machine.proofs.Lists.{nth-past}
use Rattle.gb_machine.specs.Bus.{Bus, Request, next_number, request_of}
use Rattle.gb_machine.specs.Runs.{IsMoment, Moment, after, told_at}
use Rattle.gb_machine.specs.Sending.{Draft, requested, sent}
use Rattle.gb_machine.specs.SvcQueues.{is_connection_request, is_for_link, svc_requests}
use Rattle.gb_machine.specs.{HostActs.host_draft, LawsSvc.HasNoEnumeration, LawsSvc.NoneBehind}
use Rattle.gb_machine.specs.{Refusals.is_reserved, SequenceSteps.asks_control}
use Rattle.gb_machine.specs.{SequenceSteps.is_enumeration, State.State, Turns.Act, Turns.Asking}
use Rattle.gb_invariants.proofs.Awaiting.{none-some, not-both, same-some, sent-new, sent-request}
use Rattle.gb_invariants.proofs.Outcomes.{both-true}
use Rattle.gb_laws.proofs.enumerations.AskedWaits.{AsksIn, asks_in, no-asks}
use Rattle.gb_laws.proofs.enumerations.Behind.{behind-on, connection-reserved, formed-connects}
use Rattle.gb_laws.proofs.enumerations.EnumSettledRuns.{SettledTo, none-waits, settled-over}
use Rattle.gb_laws.proofs.enumerations.EnumSettledRuns.{settled-throughout}
use Rattle.gb_laws.proofs.enumerations.EnumSettledRuns.{settled_law}
use Rattle.gb_laws.proofs.links.Links.{ArePending, IsDue, IsDueBy, IsFormed}
use Rattle.gb_laws.proofs.points.PointParts.{Basis, Point, Wires, resting}
use Rattle.gb_laws.proofs.points.Points.{Change, IsAskedBy, IsPlain, Law, acts_asked, asks, by_far}
use Rattle.gb_laws.proofs.points.Points.{by_loader}
use Rattle.gb_laws.proofs.points.Points.{by_host, changed, names, upon}
use Rattle.gb_laws.proofs.removals.QuietRuns.{quiet-start}
use Rattle.gb_laws.proofs.runs.Runs.{HoldsByMoments, throughout, weaker}
use Rattle.gb_laws.proofs.{points.Awaited.awaited-rest, points.ChangeBuses.keeps-requests}
use Rattle.gb_laws.proofs.{creations.CreatingKept.far-side}
use Rattle.gb_laws.proofs.{enumerations.EnumLinks.LinksDone, enumerations.EnumLinks.links-kept}
use Rattle.gb_laws.proofs.{enumerations.EnumSettled.IsSettled}
use Rattle.gb_laws.proofs.{links.LinkKept.LinkedAt, links.LinkRuns.start-absent}
use Rattle.gb_laws.proofs.{steps.Steps.over-step}
use Rattle.gb_laws.proofs.{svc.SvcMoves.far-moves, svc.SvcMoves.far-sent, svc.SvcThere.There}

abbrev BehindAt : ℕ → Point → Type 0
BehindAt i a = NoneBehind i (svc_requests side.Far a.state.bus)

-- ---- each single change

-- where no request is made
behind-same : (i : ℕ) (m : Moment) (a : Point) (x : Change m a) → Basis a → LinkedAt a
    → There a.state.bus → (changed m a x).state.bus.requests ≡ a.state.bus.requests
    → BehindAt i a → BehindAt i (changed m a x)
behind-same i m a x basis links there same h =
    behind-on i a basis (far-moves m x basis links there) (keeps-requests m a x)
    (λ r made on own is. absurd (none-some
    (sym (nth-past (next_number a.state.bus) a.state.bus.requests (omega arith))
    ∙ ap (λ rs. request_of (next_number a.state.bus)
    (record (changed m a x).state.bus { requests = rs })) (sym same) ∙ made))) h

-- where one is made
behind-sent : (i : ℕ) (a : Point) (d : Draft) (label : ℕ) → Basis a → There a.state.bus
    → (d.connection ≡ 1 → d.side ≡ side.Ap
    → is_connection_request i (requested d label) ≡ true → HasNoEnumeration i a.state.bus)
    → BehindAt i a → NoneBehind i (svc_requests side.Far (sent d label a.state.bus))
behind-sent i a d label basis there none h =
    behind-on i a basis (far-sent d label basis there)
    (λ n r made. sent-request d label a.state.bus n r made) (λ r made on own is.
    let same = same-some (requested d label) r (sym (sent-new d label a.state.bus) ∙ made) in
    none (ap (λ (q : Request). q.connection) same ∙ on) (ap (λ (q : Request). q.side) same ∙ own)
    (ap (is_connection_request i) same ∙ is)) h

-- what a line asks speaks of no connection
plain-apart : (a : Point) (d : Draft) (label i : ℕ) → LinkedAt a → IsPlain a.state d
    → d.connection ≡ 1 → is_connection_request i (requested d label) ≡ true → ⊥
plain-apart a d label i links (inl plain) one is = not-both (is_reserved d.kind)
    (connection-reserved i d.kind d.payload (both-true (is_for_link i (requested d label)) _ is).0)
    plain.0
plain-apart a d label i links (inr on) one is =
    let low = (links.host.links.numbered on.0 on.1).from_two in
    let same = on.2 in
    omega (arith, low, same, one)

-- what a sequence asks for a connection it asks where the interface is enumerated
host-apart : (a : Point) (q : Asking) (rest : List Act) (label i : ℕ) → LinkedAt a
    → IsSettled i a → LinksDone i a → a.pending ≡ Act.Ask q ∷ rest → q.on ≡ 1
    → is_connection_request i (requested (host_draft q a.state.now) label) ≡ true
    → HasNoEnumeration i a.state.bus
host-apart a q rest label i links settled done pending one is =
    none-waits i a.state.bus (settled.done
    (done.due q (subst (AsksIn q) (sym pending) (asks_in (inl refl))) p.1 p.0))
  where
    due : IsDue q.purpose.step q.purpose a.state.host
    due = (subst (ArePending a.state.host) pending links.pending).0.0

    formed : IsFormed q
    formed = (subst (ArePending a.state.host) pending links.pending).0.2

    svc : (t : Bool) → asks_control q.purpose.step ≡ t → t ≡ false
    svc false e = refl
    svc true e = let low = formed.control e in absurd (omega (arith, low, one))

    control : (t : Bool) → t ≡ true → IsDueBy t q.purpose.step q.purpose a.state.host
        → q.purpose.cport ≡ 0
    control true e d = d.cport
    control false e d = absurd cc

    p : (is_enumeration q.purpose.step ≡ false) × (q.purpose.intf ≡ i)
    p = formed-connects i q formed (svc (asks_control q.purpose.step) refl)
        (λ e. control (is_enumeration q.purpose.step) e due)
        (requested (host_draft q a.state.now) label) refl refl is

behind-kept : (m : Moment) (i : ℕ) (a : Point) (x : Change m a) → Basis a → LinkedAt a
    → There a.state.bus → IsSettled i a → LinksDone i a → BehindAt i a → BehindAt i (changed m a x)
behind-kept m i a (asks d c label free live is who) basis links there settled done h =
    behind-sent i a d label basis there (by who) h
  where
    by : IsAskedBy m a c d → d.connection ≡ 1 → d.side ≡ side.Ap
        → is_connection_request i (requested d label) ≡ true → HasNoEnumeration i a.state.bus
    by (by_far far on unloaded) one own e = absurd (far-side m a d c far own)
    by (by_loader x going far on) one own e = absurd (far-side m a d c far own)
    by (by_host q rest pending draft none) one own e =
        host-apart a q rest label i links settled done pending
        (ap (λ (x : Draft). x.connection) (sym draft) ∙ one)
        (ap (λ (x : Draft). is_connection_request i (requested x label)) (sym draft) ∙ e)
behind-kept m i a (names name d c label free live is host) basis links there settled done h =
    behind-sent i a d label basis there
    (λ one own e. absurd (plain-apart a d label i links host.1 one e)) h
behind-kept m i a (acts_asked q n rest is) basis links there settled done h =
    behind-same i m a (acts_asked q n rest is) basis links there
    (ap (λ (b : Bus). b.requests) (awaited-rest q.purpose n).bus) h
behind-kept m i a x basis links there settled done h =
    behind-same i m a x basis links there refl h

-- ---- throughout

pub record BehindTo (told : List Entry) (s : State) : Type 0 where
  pub settled : SettledTo told s
  pub links : (i : ℕ) → LinksDone i (resting told s)
  pub behind : (i : ℕ) → NoneBehind i (svc_requests side.Far s.bus)

module _ (m : Moment) (start : BehindTo m.told m.before) where
  abbrev behind_law : ℕ → Law m
  behind_law i = upon (upon (settled_law m start.settled i) (LinksDone i)
      (λ a x g h. links-kept m (start-absent m start.settled.quiet.wired.links) i a x
      g.0.0.0.0.1 g.1 h)) (BehindAt i)
      (λ a x g h. behind-kept m i a x g.0.0.0.0.0.0 g.0.0.0.0.0.1 g.0.0.0.0.1 g.0.1 g.1 h)

  behind-over : IsMoment m.event → BehindTo (m.told ++ told_at m) (after m)
  behind-over one = record {
    settled = settled-over m start.settled one;
    links = λ i. let r = (over i).1.0.1 in
        record { stages = r.stages; links = r.links; due = r.due };
    behind = λ i. (over i).1.1;
  }
    where
      over : (i : ℕ) → (w : Wires) × (behind_law i).holds
          (record (resting (m.told ++ told_at m) (after m)) { wires = w })
      over i = over-step m (behind_law i) one (
        ((quiet-start m start.settled.quiet i, start.settled.settled i), start.links i),
        start.behind i,
      )

pub behind-throughout : HoldsByMoments BehindTo
behind-throughout = throughout BehindTo (record {
  settled = settled-throughout [] tt;
  links = λ i. record {
    stages = λ x j. absurd j;
    links = λ l j. absurd j;
    due = λ q j. absurd (no-asks j);
  };
  behind = λ i. tt;
}) (λ m one h. behind-over m h one)

-- Behind a request of an enumeration none for a connection waits.
pub none-behind_by_moments : HoldsByMoments
    (λ told s. (i : ℕ) → NoneBehind i (svc_requests side.Far s.bus))
none-behind_by_moments = weaker BehindTo
    (λ told s. (i : ℕ) → NoneBehind i (svc_requests side.Far s.bus)) (λ told s h. h.behind)
    behind-throughout
