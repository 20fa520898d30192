-- A request that is delivered is held or served as the machine does.
use Rattle.std.proofs.Common.{◌≡◌, ℕ, Bool, true, false, Option, Some, None, if◌then◌else◌}
use Rattle.std.proofs.Common.{option_map, Result, Ok, Err, List, [], refl, sym, ap, ◌∙◌, subst}
use Rattle.gb_base.specs.declared.end.End.{End}
use Rattle.gb_base.specs.declared.end.Side.{Side}
use Rattle.gb_base.specs.declared.end.Side.TheVariants as side
use Rattle.gb_base.specs.declared.entry.Entry.{Entry}
use Rattle.gb_base.specs.declared.event.Event.TheVariants as event
use Rattle.gb_base.specs.declared.host_event.HostEvent.{HostEvent}
use Rattle.gb_bus.specs.Delivering.{Delivers}
use Rattle.gb_bus.specs.Wiring.{ends_of}
use Rattle.gb_bus.specs.declared.answers.Arrival.TheVariants as arrival
use Rattle.gb_bus.specs.declared.answers.Arrived.{Arrived}
use Rattle.gb_bus.specs.declared.answers.Asked.{Asked}
use Rattle.gb_bus.specs.declared.bus.Bus.{Bus}
use Rattle.gb_base.specs.declared.reasons.RawFault.{RawFault}
use Rattle.gb_formats.specs.Message.{Message}
use Rattle.gb_formats.specs.Wire.{raw_message}
use Rattle.gb_invariants.proofs.Awaiting.{same-some}
use Rattle.gb_laws.proofs.runs.Reached.{reached-front, reached-noted}
use Rattle.gb_invariants.proofs.Found.{find-changed}
use Rattle.gb_machine.proofs.Opened.{machine_opened}
use Rattle.gb_machine.proofs.Steps.{delivers-arrives}
use Rattle.gb_machine.specs.Actions.{given}
use Rattle.gb_machine.specs.Arriving.{arrives, asked_at, by_label, raw_taken}
use Rattle.gb_machine.specs.Bus.{Ask, Connection, Item, Place, Raw, RawReply, Reply, Request}
use Rattle.gb_machine.specs.Bus.{connection_of, end_of, has_number, place_of, queue, request_of}
use Rattle.gb_machine.specs.Delivery.{popped, without_front}
use Rattle.gb_machine.specs.Incoming.{Incoming, incoming, incoming_raw, is_request, raw_request}
use Rattle.gb_machine.specs.Incoming.{request_in}
use Rattle.gb_machine.specs.Lists.{first}
use Rattle.gb_machine.specs.Refusals.{is_end_unplugged}
use Rattle.gb_machine.specs.State.{State}
use Rattle.gb_machine.specs.HostServing.{HostServed, host_serves}
use Rattle.gb_machine.specs.Reached.{OfARun}
use Rattle.gb_system.proofs.Doings.{does-as}
use Rattle.gb_system.proofs.Standing.{rebussed}
use Rattle.gb_system.specs.Doing.{IsDone}
use Rattle.gb_system.specs.Drafts.{IsUpon}
use Rattle.gb_system.specs.Holding.{AsksAt}
use Rattle.gb_system.specs.Serving.{IsDelivered, MayServe, only, side_of, MayNotice, after_serving}
use Rattle.gb_system.specs.Stands.{PartiesStand, PartsStand, around_bus}
use Rattle.gb_system.specs.declared.parties.Parties.{Parties}
use Rattle.gb_system.proofs.Arrivals.{TakesAt, brought, delivered-here, found-there, takes-as}
use Rattle.gb_system.proofs.RawArrivals.{taken_state}

-- ---- a request

-- the connection is there still, between the same ends
upon-taken : (s : State) (p : Place)
    → connection_of p.connection.number s.bus ≡ Some p.connection
    → IsUpon p.connection.number (popped p.connection.number p.side s.bus) p.connection
upon-taken s p found = record {
  number = refl;
  ends = ap (option_map ends_of)
      (find-changed (has_number p.connection.number) (without_front p.side) s.bus.connections
      (same p.side) ∙ ap (option_map (without_front p.side)) found)
      ∙ ends p.side;
}
  where
    same : (t : Side) (c : Connection)
        → has_number p.connection.number (without_front t c) ≡ has_number p.connection.number c
    same side.Ap c = refl
    same side.Far c = refl

    ends : (t : Side) → option_map ends_of (option_map (without_front t) (Some p.connection))
        ≡ Some (ends_of p.connection)
    ends side.Ap = refl
    ends side.Far = refl

-- what is noticed at it is possible
may-serve : (s : State) (at : End) (p : Place) (item : Item) (q : Incoming) → OfARun s
    → place_of at s.bus.connections ≡ Some p → first (queue p.side p.connection) ≡ Some item
    → request_in item s.bus ≡ Some q → MayServe p.side p.connection q (taken_state s p)
may-serve s at p item q run named front is = by p.side refl
  where
    served : HostServed
    served = host_serves p.connection.number q.kind q.payload s.host

    noticed : (o : Option HostEvent) → p.side ≡ side.Ap → served.notices ≡ o
        → MayNotice o (after_serving p.connection q served (taken_state s p))
    noticed None at_ap e = tt
    noticed (Some e) at_ap notices =
        reached-noted s at p item q e (after_serving p.connection q served (taken_state s p)) run
        (record { named = named; side = at_ap; front = front; made = is; notices = notices })

    by : (t : Side) → p.side ≡ t → MayServe t p.connection q (taken_state s p)
    by side.Far e = tt
    by side.Ap e = noticed served.notices e refl

-- a request is the same once it was taken from its queue
request-taken : (p : Place) (item : Item) (s : State)
    → request_in item (taken_state s p).bus ≡ request_in item s.bus
request-taken p (Ask n) s = refl
request-taken p (Reply n result payload) s = refl
request-taken p (Raw bytes) s = refl
request-taken p (RawReply label kind result payload) s = refl

-- it is held or served once it was taken
arrives-asks : (at : Side) (c : Connection) (item : Item) (q : Incoming) (t : State)
    → request_in item t.bus ≡ Some q → arrives at c item t ≡ asked_at at c item q t
unfolding machine_opened
arrives-asks at c (Ask n) q t is = by (request_of n t.bus) is
  where
    by : (o : Option Request) → option_map (incoming n) o ≡ Some q
        → given o (λ (r : Request). asked_at at c (Ask n) (incoming n r)) t
        ≡ asked_at at c (Ask n) q t
    by None e = absurd cc
    by (Some r) e = ap (λ w. asked_at at c (Ask n) w t) (same-some (incoming n r) q e)
arrives-asks at c (Raw bytes) q t is = by (raw_message bytes) is
  where
    by_kind : (m : Message) (u : Bool)
        → (if u then Some (incoming_raw m) else None) ≡ Some q
        → (if u then asked_at at c (Raw bytes) (incoming_raw m)
        else by_label at c m.id m.result m.payload) t
        ≡ asked_at at c (Raw bytes) q t
    by_kind m true e = ap (λ w. asked_at at c (Raw bytes) w t) (same-some (incoming_raw m) q e)
    by_kind m false e = absurd cc

    by : (r : Result Message RawFault) → raw_request r ≡ Some q
        → raw_taken at c (Raw bytes) r t ≡ asked_at at c (Raw bytes) q t
    by (Err fault) e = absurd cc
    by (Ok m) e = by_kind m (is_request m) e
arrives-asks at c (Reply n result payload) q t is = absurd cc
arrives-asks at c (RawReply label kind result payload) q t is = absurd cc

pub ask-here : {x z : Parties} {s : State} {a b : List Entry} (st : PartiesStand x s) {at : End}
    (there : false ≡ is_end_unplugged at s) {y : Bus} {takes_it : Bool} {arrived : Arrived}
    (m : Delivers (around_bus [] s) y at takes_it s.bus arrived) (told_so : TakesAt x at takes_it)
    (asked : Asked) (payload : List ℕ) → arrived.item ≡ arrival.Ask asked payload
    → AsksAt at (record x { bus = y }) z arrived.connection asked payload a b
    → IsDone z s (event.Deliver at) a b
ask-here {x} {z} {s} {a} {b} st {at} there {y} {takes_it} {arrived} m told_so asked payload brings
    serve =
    let p = m.place in
    let w = found-there st there m told_so in
    let o = brought st there m told_so (arrival.Ask asked payload) brings in
    let h = o.1 in
    let t = taken_state s p in
    let c = p.connection in
    let q = h.request in
    let is = request-taken p m.item s ∙ h.is in
    let stand : PartsStand (only c.number p.side m.item) (record x { bus = y }) t =
    rebussed (only c.number p.side m.item) y t.bus st.parts h.stands
    refl in
    let delivered : IsDelivered at arrived.connection asked payload t c m.item = record {
      request = q;
      is = is;
      names = h.names;
      payload_is = h.payload_is;
      upon = subst (λ j. IsUpon j t.bus c) (sym m.connection) (upon-taken s p w.found);
      there = ap (λ d. end_of d c) w.side ∙ w.is;
      numbered = λ far. reached-front s c m.item q st.run w.live
          (ap (λ d. first (queue d c)) (sym far ∙ w.side) ∙ m.front) h.is;
    } in
    let done = serve t c m.item delivered
    (subst (λ j. PartsStand (only j (side_of at) m.item) (record x { bus = y }) t)
    (sym m.connection)
    (subst (λ d. PartsStand (only c.number d m.item) (record x { bus = y }) t) (sym w.side) stand))
    (subst (λ d. MayServe d c q t) (sym w.side)
    (may-serve s at p m.item q st.run m.named m.front h.is)) in
    delivered-here st there m told_so
    (does-as (ap (λ d. asked_at d c m.item q t) w.side
    ∙ sym (delivers-arrives s at p m.item m.named m.front
    (takes-as st there m told_so true o.0) ∙ arrives-asks p.side c m.item q t is)) done)
