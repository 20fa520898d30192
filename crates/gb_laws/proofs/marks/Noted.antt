-- What the application processor takes notice of where a request is delivered is possible.
use Rattle.std.proofs.Common.{List, Some, ap, arith, refl, subst, sym, ℕ, [], ◌+◌, ◌∙◌, ◌≡◌, ◌≤◌}
use Rattle.std.specs.Prelude.{Ok}
use Rattle.gb_base.specs.declared.end.End.{End}
use Rattle.gb_base.specs.declared.end.Side.TheVariants as side
use Rattle.gb_base.specs.declared.event.Event.TheVariants as event
use Rattle.gb_base.specs.declared.host_event.HostEvent.{HostEvent}
use Rattle.gb_base.specs.declared.host_event.HostEvent.TheVariants as host_event
use Rattle.gb_formats.specs.SvcRecords.{SvcAsk, read_svc_ask}
use Rattle.gb_machine.specs.Bus.{Item, Place, Request, other_side, place_of, queue, request_of}
use Rattle.gb_machine.specs.Host.{first_host, interfaces_of}
use Rattle.gb_machine.specs.HostServing.{host_serves, notified_by}
use Rattle.gb_machine.specs.Incoming.{Incoming, request_in}
use Rattle.gb_machine.specs.Lists.{first, span}
use Rattle.gb_machine.specs.{Reached.OfARun, Runs.Moment, State.State}
use Rattle.gb_invariants.proofs.{Awaiting.same-some, ItemChanges.first-in, Places.place-is}
use Rattle.gb_invariants.specs.Facts.{IsMadeOn, IsOwn}
use Rattle.gb_laws.proofs.links.Possible.{begun-possible, gone-possible}
use Rattle.gb_laws.proofs.marks.MarkNotices.{SvcFront, Tells, svc-front, told-svc}
use Rattle.gb_laws.proofs.marks.Marks.{notice_of}
use Rattle.gb_laws.proofs.{points.PointParts.IsNoticed, runs.OfStates.reached-told}
use Rattle.gb_laws.proofs.svc.SvcKinds.{svc-kind}
use Rattle.gb_laws.specs.Possible.{MayTurn}

-- ---- insertions

-- a record of an insertion is noticed as that
inserted-notice : (kind : ℕ) (payload : List ℕ) (p count flags : ℕ)
    → read_svc_ask kind payload ≡ Ok (SvcAsk.ModuleInserted p count flags)
    → notice_of kind payload ≡ Some (host_event.Inserted p count)
inserted-notice kind payload p count flags e =
    subst (λ k. read_svc_ask k payload ≡ Ok (SvcAsk.ModuleInserted p count flags)
    → notice_of k payload ≡ Some (host_event.Inserted p count))
    (svc-kind kind payload (SvcAsk.ModuleInserted p count flags) e)
    (ap (λ r. (notified_by r first_host).notices)) e

-- An insertion that the supervisory controller asked is of a module that there can be.
asked-insertion : (s : State) → OfARun s → (n : ℕ) (r : Request)
    → request_of n s.bus ≡ Some r → r.connection ≡ 1 → r.side ≡ side.Far → (p count flags : ℕ)
    → read_svc_ask r.kind r.payload ≡ Ok (SvcAsk.ModuleInserted p count flags)
    → (2 ≤ p) × (1 ≤ count) × (p + count ≤ 32)
asked-insertion s run n r made on far p count flags read =
    let range = (reached-told s run).2.told n r made on far p count
    (inserted-notice r.kind r.payload p count flags read) in
    (range.two, range.one, range.within)

-- ---- what is noticed

-- A request that stands in front makes the application processor take notice of something.
pub record IsNoted (s : State) (at : End) (p : Place) (item : Item) (q : Incoming) (e : HostEvent)
    : Type 0 where
  pub named : place_of at s.bus.connections ≡ Some p
  pub side : p.side ≡ side.Ap
  pub front : first (queue p.side p.connection) ≡ Some item
  pub made : request_in item s.bus ≡ Some q
  pub notices : (host_serves p.connection.number q.kind q.payload s.host).notices ≡ Some e

-- That is possible: the request is one that the supervisory controller made.
pub reached-noted : (s : State) (at : End) (p : Place) (item : Item) (q : Incoming) (e : HostEvent)
    (t : State) → OfARun s → IsNoted s at p item q e → MayTurn e t
reached-noted s at p item q e t run noted =
    by e (told-svc e w.request.kind w.request.payload first_host w.notice)
  where
    m : Moment
    m = record { told = []; event = event.Deliver at; before = s }

    n : IsNoticed m e
    n = record {
      at = at;
      place = p;
      item = item;
      request = q;
      event = refl;
      named = noted.named;
      side = noted.side;
      front = noted.front;
      made = noted.made;
      notices = noted.notices;
    }

    w : SvcFront m e n
    w = svc-front m e n (reached-told s run).0 (reached-told s run).1

    own : IsMadeOn 1 side.Far w.number s.bus
    own =
        let live = (place-is at s.bus.connections p noted.named).live in
        let waits = first-in (queue p.side p.connection) item noted.front in
        let of_item = (reached-told s run).0.bus.items.own p.connection p.side item live waits in
        subst (λ k. IsMadeOn k side.Far w.number s.bus) w.one
        (subst (λ d. IsMadeOn p.connection.number (other_side d) w.number s.bus) noted.side
        (subst (IsOwn s.bus p.connection.number p.side) w.item of_item))

    made : request_of w.number s.bus ≡ Some own.0
    made = own.1

    by : (e : HostEvent) → Tells e (read_svc_ask w.request.kind w.request.payload) → MayTurn e t
    by (host_event.Inserted p count) (flags, read) =
        let same = same-some own.0 w.request (sym own.1 ∙ w.made) in
        let range = asked-insertion s run w.number w.request w.made
        (subst (λ (r : Request). r.connection ≡ 1) same own.2)
        (subst (λ (r : Request). r.side ≡ side.Far) same own.3) p count flags read in
        let most = range.2 in
        (omega (arith, most), begun-possible p (span p count) t.host t.bus)
    by (host_event.Removed p) told = (tt, gone-possible (interfaces_of p t.host) t.host t.bus)
    by _ told = absurd told
