-- An interface is absent from the handling of its removal to that of its next insertion, and no
-- live connection names it then.
use Rattle.std.proofs.Common.{Bool, None, Option, Some, ap, false, inl, inr, refl, subst, sym, true}
use Rattle.std.proofs.Common.{ℕ, [], ◌∙◌, ◌≡◌}
use Rattle.std.specs.Prelude.{is_some, ◌==◌}
use Rattle.gb_base.specs.declared.end.End.TheVariants as end
use Rattle.gb_base.specs.declared.end.Side.TheVariants as side
use Rattle.gb_base.specs.declared.host_event.HostEvent.TheVariants as host_event
use Rattle.gb_base.specs.declared.interface.{Interface.Interface, Link.Link}
use Rattle.gb_machine.specs.Bus.{Ask, Connection, Place, Request, connection_of, place_of}
use Rattle.gb_machine.specs.Bus.{request_of}
use Rattle.gb_machine.specs.Host.{first_host, interface_of, link_of}
use Rattle.gb_machine.specs.Runs.{IsMoment, Moment, after}
use Rattle.gb_machine.specs.SvcQueues.{HandlesInsertion, HandlesRemoval, inserts, items_in}
use Rattle.gb_machine.specs.{HostServing.served_on, LawsHotPlug.AbsentBetween}
use Rattle.gb_machine.specs.{LawsHotPlug.AbsentIsUnconnected, Lists.first, Members.IsIn}
use Rattle.gb_machine.specs.{State.State, Wiring.is_at}
use Rattle.gb_machine.specs.Lists.{is_within}
use Rattle.gb_invariants.proofs.Awaiting.{not-both, same-some}
use Rattle.gb_invariants.proofs.{Lists.each-from, Numbers.found-by_number}
use Rattle.gb_invariants.proofs.{Outcomes.same-number}
use Rattle.gb_invariants.proofs.ModuleTurns.{in-span}
use Rattle.gb_laws.proofs.links.Links.{IsKnown, IsPresent, leaving, linked, supervisory}
use Rattle.gb_laws.proofs.marks.MarkKnown.{IsInserted, KnownAt, WasKnown, known-kept}
use Rattle.gb_laws.proofs.points.PointParts.{Basis, resting}
use Rattle.gb_laws.proofs.runs.Runs.{HoldsAtMoments, HoldsByMoments, at_each, weaker}
use Rattle.gb_laws.proofs.{identifiers.Endpoints.ApartTo, identifiers.Endpoints.apart-throughout}
use Rattle.gb_laws.proofs.{links.LinkFrom.Linked}
use Rattle.gb_laws.proofs.{links.LinkKept.InsertsAbsent, links.LinkLaw.link_law}
use Rattle.gb_laws.proofs.{links.LinkRuns.start-absent}
use Rattle.gb_laws.proofs.marks.MarkMoments.{present-some, some-none, some-present}
use Rattle.gb_laws.proofs.marks.MarkNotices.{IsToldBySvc, notice-any, reads-front, told-by_svc}
use Rattle.gb_laws.proofs.marks.Marks.{IsRemoval, known-in, known-there, known_at, notice_of}
use Rattle.gb_laws.proofs.{marks.MarkTakes.no-link-one}
use Rattle.gb_laws.proofs.{points.Points.Law, points.Points.upon, links.Removing.removed-absent}
use Rattle.gb_laws.proofs.{runs.SettleQueues.IsFarEnd}
use Rattle.gb_laws.proofs.{runs.SettleQueues.place-found, steps.Steps.over-step}
use Rattle.gb_laws.proofs.marks.MarkHosts.{named-one}
use Rattle.gb_laws.proofs.marks.Wholes.{true-within}

-- ---- no live connection names an absent interface

-- each end of a live connection that is at an interface is at one that is known
pub unconnected : (i : ℕ) (s : State) → Linked s.bus s.host [] → interface_of i s.host ≡ None
    → (c : Connection) → IsIn c s.bus.connections → is_at i c.peer ≡ false
unconnected i s links absent c live = by (links.known c live)
  where
    other : (l : Link) → IsIn l s.host.links → (t : Bool) → (l.intf == i) ≡ t → t ≡ false
    other l j false e = refl
    other l j true e = absurd (not-both (is_some (interface_of i s.host))
        (subst (λ n. is_some (interface_of n s.host) ≡ true) (same-number l.intf i e)
        (present-some s.host (links.host.present l j))) (ap is_some absent))

    by : IsKnown c s.host.links [] → is_at i c.peer ≡ false
    by (supervisory one) = ap (is_at i) (links.svc c live one).peer
    by (linked l j of) = ap (is_at i) of.peer ∙ other l j (l.intf == i) refl
    by (leaving j) = absurd j

-- ---- an insertion is handled

-- what is known of interfaces, with what it stands on
abbrev known_law : (m : Moment) → InsertsAbsent m → Law m
known_law m absent =
    upon (link_law m absent) (KnownAt m) (λ a x g h. known-kept m a x h)

inserted-noticed : (m : Moment) → IsMoment m.event → ApartTo m.told m.before → (i : ℕ)
    → interface_of i m.before.host ≡ None → is_some (interface_of i (after m).host) ≡ true
    → (p : ℕ) × IsInserted m i p
inserted-noticed m one start i absent there =
    (p.interface.primary, by (stays p.interface p.known))
  where
    p : IsPresent i (after m).host.interfaces
    p = some-present i (after m).host there

    stays : KnownAt m (resting [] (after m))
    stays = (over-step m (known_law m (start-absent m start.links)) one (
      (start.links.0, start.links.1),
      λ x j. inl (named-one m.before.host x j),
    )).1.1

    by : WasKnown m p.interface.intf p.interface.primary → IsInserted m i p.interface.primary
    by (inl k) = absurd (not-both (is_some (interface_of i m.before.host))
        (present-some m.before.host
        (record { interface = k.interface; known = k.known; is = k.intf ∙ p.is }))
        (ap is_some absent))
    by (inr n) = subst (λ k. IsInserted m k p.interface.primary) p.is n

-- the front request says so
record IsToldInsertion (m : Moment) (i : ℕ) : Type 0 where
  primary : ℕ
  count : ℕ
  within : is_within primary count i ≡ true
  told : IsToldBySvc m (host_event.Inserted primary count)

inserted-told : (m : Moment) → IsMoment m.event → ApartTo m.told m.before → (i : ℕ)
    → interface_of i m.before.host ≡ None → is_some (interface_of i (after m).host) ≡ true
    → IsToldInsertion m i
inserted-told m one start i absent there =
    let n = inserted-noticed m one start i absent there in
    let r = in-span i n.0 n.1.count n.1.within in record {
      primary = n.0;
      count = n.1.count;
      within = true-within n.0 n.1.count i r.0 r.1;
      told = told-by_svc m (host_event.Inserted n.0 n.1.count) start.links.0 start.links.1
          n.1.noticed;
    }

inserted-at : (m : Moment) → IsMoment m.event → ApartTo m.told m.before → (i : ℕ)
    → interface_of i m.before.host ≡ None → is_some (interface_of i (after m).host) ≡ true
    → HandlesInsertion i m
inserted-at m one start i absent there =
    let n = inserted-told m one start i absent there in
    let t = n.told in record {
      number = t.number;
      request = t.request;
      is = t.is;
      front = t.front;
      made = t.made;
      passes = ap (inserts i) t.tells.1 ∙ n.within;
    }

-- ---- a removal is handled

pub far-end : (s : State) → Linked s.bus s.host [] → (c : Connection) → IsIn c s.bus.connections
    → IsFarEnd c.peer
far-end s links c live = by (links.known c live)
  where
    by : IsKnown c s.host.links [] → IsFarEnd c.peer
    by (supervisory one) = subst IsFarEnd (sym (links.svc c live one).peer) tt
    by (linked l j of) = subst IsFarEnd (sym of.peer) tt
    by (leaving j) = absurd j

removed-at : (m : Moment) → IsMoment m.event → ApartTo m.told m.before → (i : ℕ)
    → HandlesRemoval i m → interface_of i (after m).host ≡ None
removed-at m one start i h = by (interface_of i m.before.host) refl
  where
    r : IsRemoval h.number m.before.bus
    r = start.links.2.pulled h.number i h.told

    basis : Basis (resting m.told m.before)
    basis = start.links.0

    links : Linked m.before.bus m.before.host []
    links = start.links.1

    c : Connection
    c = start.links.3.connection

    p : Place
    p = record { connection = c; side = side.Ap }

    svc : c.ap ≡ 0
    svc = (links.svc c start.links.3.live start.links.3.number).ap

    found : connection_of 1 m.before.bus ≡ Some c
    found = subst (λ k. connection_of k m.before.bus ≡ Some c) start.links.3.number
        (found-by_number m.before.bus.connections c basis.bus.numbers.rise start.links.3.live)

    named : place_of (end.Ap 0) m.before.bus.connections ≡ Some p
    named = subst (λ a. place_of (end.Ap a) m.before.bus.connections ≡ Some p) svc
        (place-found m.before.bus.connections c side.Ap start.apart
        (far-end m.before links) start.links.3.live start.links.3.wired)

    front : first c.to_ap ≡ Some (Ask h.number)
    front = ap (λ o. first (items_in side.Ap o)) (sym found) ∙ h.front

    none : link_of c.number m.before.host ≡ None
    none = ap (λ k. link_of k m.before.host) start.links.3.number
        ∙ no-link-one m.before.bus m.before.host.links
        (λ l k. (links.host.links.numbered l k).from_two)

    notices : (served_on (link_of c.number m.before.host) r.request.kind r.request.payload
        m.before.host).notices ≡ Some (host_event.Removed r.primary)
    notices = ap (λ o. (served_on o r.request.kind r.request.payload m.before.host).notices) none
        ∙ notice-any r.request.kind r.request.payload m.before.host first_host ∙ r.notice

    -- what is known at the interface is the module that goes
    own : (q : ℕ) → known_at i m.before.host ≡ Some q → q ≡ r.primary
    own = (reads-front i h.number m.before r.request (host_event.Removed r.primary) start.links.2
        h.front r.made r.notice true h.told).0

    by : (o : Option Interface) → interface_of i m.before.host ≡ o
        → interface_of i (after m).host ≡ None
    by (Some x) e =
        let known = known-there i m.before.host (ap is_some e) in
        removed-absent m (end.Ap 0) p h.number r.primary i r.request h.is named refl front r.made
        none notices (known-in i r.primary m.before.host
        (known.1 ∙ ap Some (own known.0 known.1)))
    by None e = still (is_some (interface_of i (after m).host)) refl
      where
        same-ask : (x y : ℕ) → Some (Ask x) ≡ Some (Ask y) → x ≡ y
        same-ask x y f = cc

        apart : (x count y : ℕ)
            → Some (host_event.Inserted x count) ≡ Some (host_event.Removed y) → ⊥
        apart x count y f = absurd cc

        -- the front request tells one or the other
        other : IsToldInsertion m i → ⊥
        other n =
            let t = n.told in
            let numbers = same-ask t.number h.number (sym t.front ∙ h.front) in
            let same = same-some t.request r.request
            (sym t.made ∙ ap (λ n. request_of n m.before.bus) numbers ∙ r.made) in
            apart n.primary n.count r.primary (sym t.notice
            ∙ ap (λ (q : Request). notice_of q.kind q.payload) same ∙ r.notice)

        still : (t : Bool) → is_some (interface_of i (after m).host) ≡ t
            → interface_of i (after m).host ≡ None
        still false f = some-none i (after m).host f
        still true f = absurd (other (inserted-told m one start i e f))

-- ---- throughout

-- No live connection names an absent interface.
pub unconnected-by_moments : HoldsByMoments AbsentIsUnconnected
unconnected-by_moments = weaker ApartTo AbsentIsUnconnected
    (λ told s h i absent. each-from (λ c. is_at i c.peer ≡ false) s.bus.connections
    (unconnected i s h.links.1 absent)) apart-throughout

-- An interface is absent from a removal to the next insertion.
pub between-at_moments : HoldsAtMoments AbsentBetween
between-at_moments = at_each ApartTo AbsentBetween apart-throughout (λ m one h. record {
  removed = removed-at m one h;
  inserted = inserted-at m one h;
})
