-- What a far side asked and is awaited is on a connection that is live and wired: each single
-- change keeps it.
use Rattle.std.proofs.Common.{Some, ap, refl, subst, sym, true, ℕ, ⊎_elim, ◌∙◌}
use Rattle.std.proofs.Common.{◌≡◌}
use Rattle.gb_base.specs.declared.end.Side.TheVariants as side
use Rattle.gb_base.specs.declared.interface.Link.{Link}
use Rattle.gb_base.specs.declared.steps.SequenceStep.{SequenceStep}
use Rattle.gb_machine.specs.Bus.{Bus, Connection, Request, connection_of, request_of}
use Rattle.gb_machine.specs.Host.{Host, is_link, with_link}
use Rattle.gb_machine.specs.SequenceSteps.{Target, kind_of, payload_of}
use Rattle.gb_machine.specs.{Failures.unsent, HostActs.with_awaited, HostServing.host_serves}
use Rattle.gb_machine.specs.{LineActions.spent}
use Rattle.gb_machine.specs.{Members.IsIn, Runs.Moment, Sending.Draft}
use Rattle.gb_invariants.proofs.HostChanges.{link_awaits, waiting-by}
use Rattle.gb_invariants.proofs.{Awaiting.none-some, Awaiting.same-some, BusChanges.KeepsRequests}
use Rattle.gb_invariants.proofs.{Lists.in-at_first, Lists.in-pushed, Numbers.found-by_number}
use Rattle.gb_invariants.proofs.{Numbers.found-number, Selves.ap-no-far, Wires.AreOn}
use Rattle.gb_invariants.proofs.HostChanges.{turn_of}
use Rattle.gb_laws.proofs.points.ChangeBuses.{bus_change, by-bus, keeps-requests}
use Rattle.gb_laws.proofs.opened.FarOpen.{FarFits, IsFarWell, far-after}
use Rattle.gb_laws.proofs.links.LinkActs.{awaited-host}
use Rattle.gb_laws.proofs.creations.Pairs.{ComeFrom, come-from, come-link, come-same, come-served}
use Rattle.gb_laws.proofs.points.Points.{Change, IsAskedBy, acts_asked, acts_failed, acts_left}
use Rattle.gb_laws.proofs.points.Points.{acts_made, asks, by_far, by_host, by_loader, changed}
use Rattle.gb_laws.proofs.points.Points.{gives_up}
use Rattle.gb_laws.proofs.points.Points.{names}
use Rattle.gb_laws.proofs.points.Points.{serves, spends, turns}
use Rattle.gb_laws.proofs.{points.Awaited.awaited-rest, links.LinkBuses.new_link}
use Rattle.gb_laws.proofs.{links.LinkKept.LinkedAt}
use Rattle.gb_laws.proofs.{links.LinkSources.from-turn, links.LinkSources.from-unsent}
use Rattle.gb_laws.proofs.{links.Links.ArePending}
use Rattle.gb_laws.proofs.{links.Links.IsFormed, creations.PairsKept.PairsAt}
use Rattle.gb_laws.proofs.{points.PointParts.Basis, points.PointParts.Point}

-- ---- what connections wait for

-- request n has the type of a step, and a payload of it
pub record HasStep (n : ℕ) (step : SequenceStep) (b : Bus) : Type 0 where
  pub request : Request
  pub made : request_of n b ≡ Some request
  pub target : Target
  pub kind : request.kind ≡ kind_of step
  pub payload : request.payload ≡ payload_of step target

-- The request that a connection waits for is one of its step.
abbrev pub WaitsKinds : Bus → Host → Type 0
WaitsKinds b h =
    (l : Link) → IsIn l h.links → (w : ℕ × SequenceStep) → l.awaits ≡ Some w → HasStep w.0 w.1 b

kinds-on : (b after : Bus) (h g : Host) → KeepsRequests b after → ComeFrom h g → WaitsKinds b h
    → WaitsKinds after g
kinds-on b after h g keeps come f l live w e =
    let x = come l live in
    let k = f x.0 x.1 w (⊎_elim (λ same. sym same ∙ e) (λ none. absurd (none-some (sym none ∙ e)))
    x.4) in
    record {
      request = k.request;
      made = keeps w.0 k.request k.made;
      target = k.target;
      kind = k.kind;
      payload = k.payload;
    }

pub kinds-kept : (m : Moment) (a : Point) (x : Change m a) → LinkedAt a → PairsAt a
    → WaitsKinds a.state.bus a.state.host
    → WaitsKinds (changed m a x).state.bus (changed m a x).state.host
kinds-kept m a (turns e free untouched none cause) links pairs h =
    kinds-on a.state.bus a.state.bus a.state.host (turn_of e a.state.host).host (λ n r made. made)
    (come-from a.state.host (turn_of e a.state.host).host (from-turn e a.state.host)) h
kinds-kept m a (acts_made w q rest free is) links pairs h = λ l live v e. ⊎_elim
    (λ o. let k = h l o v e in record {
      request = k.request;
      made = k.made;
      target = k.target;
      kind = k.kind;
      payload = k.payload;
    }) (λ g. absurd (none-some (sym (ap (λ (y : Link). y.awaits) g) ∙ e)))
    (in-pushed l a.state.host.links (new_link _ w) live)
kinds-kept m a (acts_asked q n rest is) links pairs h =
    subst (λ b. WaitsKinds b (with_awaited q.purpose n a.state).host)
    (sym (awaited-rest q.purpose n).bus)
    (subst (λ g. WaitsKinds a.state.bus g) (sym (awaited-host q.purpose n a.state))
    (waiting-by (WaitsKinds a.state.bus) (Some (n, q.purpose.step)) q.purpose a.state.host
    (λ s. h) (λ s. at)))
  where
    formed : IsFormed q
    formed = (subst (ArePending a.state.host) is.0 links.pending).0.2

    new : HasStep n q.purpose.step a.state.bus
    new = let k = pairs.asks q n is.1 in record {
      request = k.request;
      made = k.made;
      target = formed.target;
      kind = k.kind ∙ formed.kind;
      payload = k.payload ∙ formed.payload;
    }

    at : WaitsKinds a.state.bus (with_link q.purpose.intf q.purpose.cport
        (link_awaits (Some (n, q.purpose.step))) a.state.host)
    at l live w e = ⊎_elim (λ o. h l o w e)
        (λ v. subst (λ (y : ℕ × SequenceStep). HasStep y.0 y.1 a.state.bus)
        (same-some (n, q.purpose.step) w (sym (ap (λ (y : Link). y.awaits) v.3) ∙ e)) new)
        (in-at_first (is_link q.purpose.intf q.purpose.cport)
        (link_awaits (Some (n, q.purpose.step))) a.state.host.links l live)
kinds-kept m a (acts_failed q rest is quiet) links pairs h =
    kinds-on a.state.bus a.state.bus a.state.host (unsent q.purpose a.state.host).host
    (λ n r made. made) (come-from a.state.host (unsent q.purpose a.state.host).host
    (from-unsent q.purpose a.state.host)) h
kinds-kept m a (serves k kind payload none) links pairs h =
    kinds-on a.state.bus a.state.bus a.state.host (host_serves k kind payload a.state.host).host
    (λ n r made. made) (come-served k kind payload a.state.host) h
kinds-kept m a (spends i c what none) links pairs h =
    kinds-on a.state.bus a.state.bus a.state.host (with_link i c (spent what) a.state.host)
    (λ n r made. made)
    (come-link a.state.host i c (spent what) (λ l. refl) (λ l. refl) (λ l. refl)) h
kinds-kept m a x links pairs h =
    kinds-on a.state.bus (changed m a x).state.bus a.state.host a.state.host (keeps-requests m a x)
    (come-same a.state.host) h

-- ---- what far sides asked

abbrev pub FarAt : Point → Type 0
FarAt a = FarFits a.state.bus

-- a connection that an act gives up isn't wired
abbrev pub GoesWell : (m : Moment) (a : Point) → Change m a → Type 0
GoesWell m a (acts_left k rest free untouched is) =
    (c : Connection) → IsIn c a.state.bus.connections → c.number ≡ k → c.wired ≡ true → ⊥
GoesWell m a _ = Unit {0}

-- a connection that is found is wired
wired-on : (k : ℕ) (c : Connection) {a : Point} → Basis a → connection_of k a.state.bus ≡ Some c
    → c.wired ≡ true → AreOn k a.state.bus
wired-on k c {a} basis live wired = let f = found-number k a.state.bus c live in record {
  wired = λ x here e. ap (λ (y : Connection). y.wired) (same-some x c
      (sym (subst (λ j. connection_of j a.state.bus ≡ Some x) e
      (found-by_number a.state.bus.connections x basis.bus.numbers.rise here)) ∙ live)) ∙ wired;
  there = record { connection = c; live = f.0; number = f.1 };
}

far-asked : (m : Moment) (a : Point) (d : Draft) (c : Connection) → Basis a
    → connection_of d.connection a.state.bus ≡ Some c → IsAskedBy m a c d → d.side ≡ side.Far
    → AreOn d.connection a.state.bus
far-asked m a d c basis live (by_host q rest is draft none) far = absurd (ap-no-far
    (sym (ap (λ (x : Draft). x.side) draft) ∙ far))
far-asked m a d c basis live (by_far who on unloaded) far =
    wired-on d.connection c basis live on.0
far-asked m a d c basis live (by_loader x going who on) far =
    wired-on d.connection c basis live on.0

pub far-kept : (m : Moment) (a : Point) (x : Change m a) → Basis a → GoesWell m a x → FarAt a
    → FarAt (changed m a x)
far-kept m a x basis goes h =
    by-bus FarFits x (far-after (bus_change x) a.state.bus (well x goes) h)
  where
    well : (x : Change m a) → GoesWell m a x → IsFarWell (bus_change x) a.state.bus
    well (asks d c label free live drawn who) goes =
        (basis.bus.outcomes, far-asked m a d c basis live who)
    well (names name d c label free live drawn host) goes =
        (basis.bus.outcomes, λ far. absurd (ap-no-far (sym host.0 ∙ far)))
    well (gives_up n how free unended cause) goes = unended
    well (acts_left k rest free untouched is) goes = goes
    well (acts_made w q rest free is) goes = basis.bus.numbers.on
    well _ goes = tt
