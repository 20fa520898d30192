-- What is known of the requests that create connections is kept by each single change.
use Rattle.std.proofs.Common.{Bool, None, Option, Some, ap, arith, cond, false, inl, inr, refl}
use Rattle.std.proofs.Common.{subst, sym, true, ℕ, ⊎_elim, [], ◌++◌, ◌∙◌, ◌∷◌, ◌≡◌}
use Rattle.gb_base.specs.declared.end.Side.TheVariants as side
use Rattle.gb_base.specs.declared.interface.Link.{Link}
use Rattle.gb_machine.specs.Host.{Host, is_link, link_at, with_given, with_link}
use Rattle.gb_machine.specs.{Bus.Bus, Bus.next_number, Failures.unsent, HostActs.made_for}
use Rattle.gb_machine.specs.{HostActs.with_awaited, HostServing.host_serves}
use Rattle.gb_machine.specs.{HostServing.with_credits, LineActions.spent}
use Rattle.gb_machine.specs.{Members.IsIn, Refusals.is_reserved, Runs.Moment, Sending.Draft}
use Rattle.gb_machine.specs.{Sending.requested, SequenceSteps.is_for_connection, Turns.Act}
use Rattle.gb_machine.specs.{Turns.Asking, Waits.awaits, Wiring.next_connection}
use Rattle.gb_invariants.proofs.{Awaiting.none-some, Awaiting.not-both, Found.in-first}
use Rattle.gb_invariants.proofs.{Lists.in-behind, Lists.in-pushed, Selves.far-no-ap}
use Rattle.gb_laws.proofs.links.LinkDue.{making-creates}
use Rattle.gb_laws.proofs.creations.Creating.{create-reserved, creates_one, made-creates}
use Rattle.gb_laws.proofs.creations.CreatingFacts.{AreReady, Came, CreatesFit, creates-came}
use Rattle.gb_laws.proofs.creations.CreatingFacts.{creates-sent}
use Rattle.gb_laws.proofs.creations.CreatingFacts.{orderly-ready}
use Rattle.gb_laws.proofs.links.LinkActs.{ServedHost, as_before, awaited-host, host-served}
use Rattle.gb_laws.proofs.links.LinkActs.{with_images, with_more}
use Rattle.gb_laws.proofs.links.LinkSources.{LinksFrom, from-turn, from-unsent}
use Rattle.gb_laws.proofs.links.Links.{ArePending, IsFree, SameLink}
use Rattle.gb_laws.proofs.points.Points.{Change, IsAskedBy, IsAsking, IsFarAsking, IsPlain}
use Rattle.gb_laws.proofs.points.Points.{acts_asked}
use Rattle.gb_laws.proofs.points.Points.{acts_failed, acts_left, acts_made, acts_shut, acts_told}
use Rattle.gb_laws.proofs.points.Points.{asking}
use Rattle.gb_laws.proofs.points.Points.{asks, awaited_by, by_far, by_host, by_loader, by_module}
use Rattle.gb_laws.proofs.points.Points.{by_svc}
use Rattle.gb_laws.proofs.points.Points.{changed}
use Rattle.gb_laws.proofs.points.Points.{gives, names, opening, serves, spends, turns}
use Rattle.gb_laws.proofs.{points.Awaited.awaited-rest, creations.CreatingAsked.creates-asked}
use Rattle.gb_laws.proofs.{creations.CreatingTurns.turn-orderly, links.LinkBuses.new_link}
use Rattle.gb_laws.proofs.{links.LinkHosts.credits-link}
use Rattle.gb_laws.proofs.{links.LinkHosts.same-link, links.LinkKept.LinkedAt}
use Rattle.gb_laws.proofs.{links.LinkLists.found-at}
use Rattle.gb_laws.proofs.{creations.PairsAsked.pairs_then, creations.PairsKept.PairsAt}
use Rattle.gb_laws.proofs.{points.PointParts.Point}
use Rattle.gb_laws.proofs.{creations.Remembering.RemembersAt}
use Rattle.gb_invariants.proofs.HostChanges.{is_creating}
use Rattle.gb_invariants.proofs.HostChanges.{turn_of}

-- what is known at a point
pub record CreatesAll (a : Point) : Type 0 where
  pub fit : CreatesFit a.state.bus.requests a.state.host.links a.state.past.made_for a.asked
  pub ready : AreReady a.state.host a.state.past.made_for a.pending

pub came-from : {w : Option (ℕ × _)} (h g : Host) → LinksFrom w h g → Came h.links g.links
came-from h g from l i = let x = (from l i).from in (x.link, x.live, x.same)

pub came-link : (h : Host) (i c : ℕ) (f : Link → Link) → ((l : Link) → SameLink l (f l))
    → Came h.links (with_link i c f h).links
came-link h i c f same l j = ⊎_elim (λ o. (l, o, same-link l))
    (λ v. (v.0, v.1, subst (SameLink v.0) (sym v.3) (same v.0)))
    (in-first (is_link i c) f h.links l j)

-- ---- who asks

pub far-side : (m : Moment) (a : Point) (d : Draft) (c : _) → IsFarAsking m c d
    → d.side ≡ side.Ap → ⊥
far-side m a d c (by_module i p peer far) e = far-no-ap (sym far ∙ e)
far-side m a d c (by_svc of far) e = far-no-ap (sym far ∙ e)

-- what a line asks creates no connection
plain-none : (a : Point) (d : Draft) (label : ℕ) → LinkedAt a → IsPlain a.state d
    → d.connection ≡ 1 → creates_one (requested d label) ≡ true → ⊥
plain-none a d label links (inl plain) one is =
    not-both (is_reserved d.kind) (create-reserved d.kind d.payload is) plain.0
plain-none a d label links (inr on) one is =
    let low = (links.host.links.numbered on.0 on.1).from_two in
    let same = on.2 in
    omega (arith, low, same, one)

-- ---- each single change

pub creates-kept : (m : Moment) (a : Point) (x : Change m a) → LinkedAt a → RemembersAt a
    → PairsAt a → LinkedAt (changed m a x) → CreatesAll a → CreatesAll (changed m a x)
creates-kept m a (asks d c label free live drawn who) links r f then h = record {
  fit = creates-sent d label a.state.bus a.state.host.links a.state.past.made_for a.asked
      (awaited_by m a c d who) r.below (still who) (new who) h.fit;
  ready = h.ready;
}
  where
    still : (w : IsAskedBy m a c d) (q : Asking) (n : ℕ) → a.asked ≡ Some (q, n)
        → awaited_by m a c d w ≡ Some (q, n)
    still (by_host p rest is draft none) q n e = absurd (none-some (sym none ∙ e))
    still (by_far far on unloaded) q n e = e
    still (by_loader x going far on) q n e = e

    new : (w : IsAskedBy m a c d) → d.connection ≡ 1 → d.side ≡ side.Ap
        → creates_one (requested d label) ≡ true
        → (q : Asking) × (awaited_by m a c d w ≡ Some (q, next_number a.state.bus))
    new (by_host p rest is draft none) one own e = (p, refl)
    new (by_far far on unloaded) one own e = absurd (far-side m a d c far own)
    new (by_loader x going far on) one own e = absurd (far-side m a d c far own)
creates-kept m a (names name d c label free live drawn host) links r f then h = record {
  fit = creates-sent d label a.state.bus a.state.host.links a.state.past.made_for a.asked
      a.asked r.below (λ q n e. e)
      (λ one own is. absurd (plain-none a d label links host.1 one is)) h.fit;
  ready = h.ready;
}
creates-kept m a (turns e free untouched none cause) links r f then h = record {
  fit = creates-came
      (came-from a.state.host (turn_of e a.state.host).host (from-turn e a.state.host)) h.fit;
  ready = orderly-ready (turn_of e a.state.host).host a.state.past.made_for
      (turn_of e a.state.host).acts (turn-orderly e a.state.host);
}
creates-kept m a (acts_told e rest is quiet) links r f then h = record {
  fit = h.fit;
  ready = (subst (AreReady a.state.host a.state.past.made_for) is h.ready).1;
}
creates-kept m a (acts_shut k rest free is cause) links r f then h = record {
  fit = h.fit;
  ready = (subst (AreReady a.state.host a.state.past.made_for) is h.ready).1;
}
creates-kept m a (acts_left k rest free untouched is) links r f then h = record {
  fit = h.fit;
  ready = (subst (AreReady a.state.host a.state.past.made_for) is h.ready).1;
}
creates-kept m a (acts_made w q rest free is) links r f then h = record {
  fit = record {
    own = h.fit.own;
    ends = λ n l x live p made. ⊎_elim (λ o. h.fit.ends n l x o p made)
        (λ e. absurd (fresh n l.connection p (ap (λ (y : Link). y.connection) e)))
        (in-pushed l a.state.host.links new live);
    first = h.fit.first;
  };
  ready = (
    (
      λ s. record {
        link = new;
        found = subst (λ c. link_at q.purpose.intf c
            (changed m a (acts_made w q rest free is)).state.host ≡ Some new) (sym made.cport)
            (subst (λ i. link_at i w.cport
            (changed m a (acts_made w q rest free is)).state.host ≡ Some new) (sym made.intf)
            (found-at (a.state.host.links ++ new ∷ []) new then.host.links.rise
            (in-behind new a.state.host.links (new ∷ []) (inl refl))));
        none = λ n p. fresh n (next_connection a.state.bus) p refl;
        ends = made-creates w q (subst (AreReady a.state.host a.state.past.made_for) is h.ready).0
            made.within made.cport_within;
      },
      λ e. absurd (not-both (is_creating q.purpose.step) (making-creates made.step) e),
    ),
    subst (AreReady (changed m a (acts_made w q rest free is)).state.host
        a.state.past.made_for) (sym (subst (ArePending a.state.host) is links.pending).0.1) tt,
  );
}
  where
    new : Link
    new = new_link (next_connection a.state.bus) w

    made : IsFree w q a.state.host
    made = (subst (ArePending a.state.host) is links.pending).0.0

    -- nothing is remembered of what is new
    fresh : (n k : ℕ) → IsIn (n, k) a.state.past.made_for → k ≡ next_connection a.state.bus → ⊥
    fresh n k p e = let low = f.given n k p in omega (arith, low, e)
creates-kept m a (acts_asked q n rest is) links r f then h = record {
  fit = subst (λ (b : Bus). CreatesFit b.requests (with_awaited q.purpose n a.state).host.links
      (with_awaited q.purpose n a.state).past.made_for None) (sym (awaited-rest q.purpose n).bus)
      (subst (λ (g : Host). CreatesFit a.state.bus.requests g.links
      (with_awaited q.purpose n a.state).past.made_for None)
      (sym (awaited-host q.purpose n a.state)) (by (is_for_connection q.purpose.step)
      (link_at q.purpose.intf q.purpose.cport (awaits q.purpose n a.state.host))
      (creates-asked a.state.bus a.state.host a.state.past.made_for q n links.host pending.0.0
      pending.0.2 (f.asks q n is.1)
      (subst (AreReady a.state.host a.state.past.made_for) is.0 h.ready).0
      (subst (CreatesFit a.state.bus.requests a.state.host.links a.state.past.made_for) is.1
      h.fit))));
  ready = subst (AreReady (with_awaited q.purpose n a.state).host
      (with_awaited q.purpose n a.state).past.made_for) (sym pending.0.1) tt;
}
  where
    pending : ArePending a.state.host (Act.Ask q ∷ rest)
    pending = subst (ArePending a.state.host) is.0 links.pending

    by : (t : Bool) (o : Option Link)
        → CreatesFit a.state.bus.requests (awaits q.purpose n a.state.host).links
        (pairs_then t o n a.state.past.made_for) None
        → CreatesFit a.state.bus.requests (awaits q.purpose n a.state.host).links (cond t
        (made_for n o (record a.state { host = awaits q.purpose n a.state.host }))
        (record a.state { host = awaits q.purpose n a.state.host })).past.made_for None
    by true None x = x
    by true (Some l) x = x
    by false o x = x
creates-kept m a (acts_failed q rest is quiet) links r f then h = record {
  fit = creates-came (came-from a.state.host (unsent q.purpose a.state.host).host
      (from-unsent q.purpose a.state.host)) h.fit;
  ready = subst (AreReady (unsent q.purpose a.state.host).host a.state.past.made_for)
      (sym (last is)) tt;
}
  where
    last : IsAsking q a.pending rest → rest ≡ []
    last (asking e) = (subst (ArePending a.state.host) e links.pending).0.1
    last (opening w e) = (subst (ArePending a.state.host) e links.pending).0.1
creates-kept m a (serves k kind payload none) links r f then h = record {
  fit = creates-came (by (host-served k kind payload)) h.fit;
  ready = subst (AreReady (host_serves k kind payload a.state.host).host a.state.past.made_for)
      (sym none.0) tt;
}
  where
    by : ServedHost a.state.host (host_serves k kind payload a.state.host)
        → Came a.state.host.links (host_serves k kind payload a.state.host).host.links
    by (as_before e) = subst (λ (g : Host). Came a.state.host.links g.links) (sym e)
        (λ l i. (l, i, same-link l))
    by (with_more i c total e) = subst (λ (g : Host). Came a.state.host.links g.links) (sym e)
        (came-link a.state.host i c (with_credits total) (credits-link total))
    by (with_images x e) = subst (λ (g : Host). Came a.state.host.links g.links) (sym e)
        (λ l i. (l, i, same-link l))
creates-kept m a (spends i c what none) links r f then h = record {
  fit = creates-came (came-link a.state.host i c (spent what) (λ l. credits-link _ l)) h.fit;
  ready = subst (AreReady (with_link i c (spent what) a.state.host) a.state.past.made_for)
      (sym none.0) tt;
}
creates-kept m a (gives tag bytes at none) links r f then h = record {
  fit = h.fit;
  ready = subst (AreReady (with_given tag bytes a.state.host) a.state.past.made_for) (sym at.0) tt;
}
creates-kept m a x links r f then h = record { fit = h.fit; ready = h.ready }
