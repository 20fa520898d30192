-- Once the removal of a module is handled, its interfaces are absent.
use Rattle.std.proofs.Common.{Bool, List, None, Option, Some, ap, cond, false, refl, subst, sym}
use Rattle.std.proofs.Common.{true, ℕ, ◌∙◌, ◌≡◌}
use Rattle.std.specs.Prelude.{Err, Ok, Result}
use Rattle.gb_base.specs.declared.end.{End.End, Side.Side}
use Rattle.gb_base.specs.declared.end.Side.TheVariants as side
use Rattle.gb_base.specs.declared.event.Event.TheVariants as event
use Rattle.gb_base.specs.declared.host_event.HostEvent.TheVariants as host_event
use Rattle.gb_base.specs.declared.host_event.HostEvent.{HostEvent}
use Rattle.gb_base.specs.declared.interface.Link.{Link}
use Rattle.gb_formats.specs.{Records.PayloadFault, SvcRecords.SvcAsk}
use Rattle.gb_formats.specs.{SvcRecords.read_svc_ask_of_svc}
use Rattle.gb_machine.proofs.{Opened.machine_opened, Steps.deliver-allowed}
use Rattle.gb_machine.specs.Actions.{given, on_bus, tell, ◌▸◌}
use Rattle.gb_machine.specs.Arriving.{arrives, asked_at, delivers_at, dropped, handles, link_takes}
use Rattle.gb_machine.specs.Arriving.{takes}
use Rattle.gb_machine.specs.Bus.{Ask, Connection, Item, Place, Request, end_of, place_of, queue}
use Rattle.gb_machine.specs.Bus.{request_of}
use Rattle.gb_machine.specs.Host.{Host, interface_of, interfaces_of, link_of}
use Rattle.gb_machine.specs.HostServing.{HostServed, host_notices, host_serves, notified_by}
use Rattle.gb_machine.specs.HostServing.{served_on}
use Rattle.gb_machine.specs.Responding.{host_served, replies, responds, serves_oneway}
use Rattle.gb_machine.specs.{Delivery.popped, Events.decided, Events.step}
use Rattle.gb_machine.specs.{Incoming.Incoming, Incoming.incoming, Lists.first}
use Rattle.gb_machine.specs.{Refusals.is_end_unplugged, Refusals.refusal, Runs.Moment, Runs.after}
use Rattle.gb_machine.specs.{Members.IsIn, State.State}
use Rattle.gb_invariants.proofs.Awaiting.{none-some, not-both, same-some}
use Rattle.gb_invariants.proofs.ModuleHosts.{all-absent, module-removed, without_all}
use Rattle.gb_laws.proofs.{marks.MarkNotices.unnoticed, points.Places.place-is}

-- ---- what is noticed is answered with success

serves-notice : (k kind : ℕ) (payload : List ℕ) (h : Host) (e : HostEvent)
    → (host_serves k kind payload h).notices ≡ Some e
    → host_serves k kind payload h ≡ host_notices e h
serves-notice k kind payload h e n = by (link_of k h) n
  where
    read : (r : Result SvcAsk PayloadFault) → (notified_by r h).notices ≡ Some e
        → notified_by r h ≡ host_notices e h
    read (Err fault) f = absurd (none-some f)
    read (Ok (SvcAsk.ModuleInserted j count flags)) f =
        ap (λ x. host_notices x h) (same-some (host_event.Inserted j count) e f)
    read (Ok (SvcAsk.ModuleRemoved j)) f =
        ap (λ x. host_notices x h) (same-some (host_event.Removed j) e f)
    read (Ok (SvcAsk.ProtocolVersion major minor)) f = absurd (none-some f)
    read (Ok (SvcAsk.Hello endo intf)) f = absurd (none-some f)
    read (Ok _) f = absurd (none-some f)

    by : (o : Option Link) → (served_on o kind payload h).notices ≡ Some e
        → served_on o kind payload h ≡ host_notices e h
    by None f = read (read_svc_ask_of_svc kind payload) f
    by (Some l) f = absurd (none-some (sym (unnoticed l kind payload h) ∙ f))

-- ---- a removal is handled

removed-behind : (c : Connection) (q : Incoming) (p : ℕ) (s : State) (r : HostServed)
    → r ≡ host_notices (host_event.Removed p) s.host
    → (responds side.Ap c q (host_served r) s).state.host
    ≡ without_all (interfaces_of p s.host) s.host
unfolding machine_opened
removed-behind c q p s r e = subst (λ x. (responds side.Ap c q (host_served x) s).state.host
    ≡ without_all (interfaces_of p s.host) s.host) (sym e) (by q.oneway)
  where
    h : HostServed
    h = host_notices (host_event.Removed p) s.host

    by : (t : Bool) → (cond t (serves_oneway q
        (host_served (host_notices (host_event.Removed p) s.host)))
        (replies side.Ap c q (host_notices (host_event.Removed p) s.host).answer
        ▸ (host_served (host_notices (host_event.Removed p) s.host)).behind) s).state.host
        ≡ without_all (interfaces_of p s.host) s.host
    by true = module-removed p s
    by false = module-removed p (replies side.Ap c q
        (host_notices (host_event.Removed p) s.host).answer s).state

removed-handles : (c : Connection) (n p : ℕ) (r : Request) (s : State)
    → link_of c.number s.host ≡ None → request_of n s.bus ≡ Some r
    → host_serves c.number r.kind r.payload s.host ≡ host_notices (host_event.Removed p) s.host
    → (handles side.Ap c (Ask n) s).state.host ≡ without_all (interfaces_of p s.host) s.host
unfolding machine_opened
removed-handles c n p r s none made served = by (takes side.Ap c s) (ap link_takes none)
  where
    arrived : (o : Option Request) → o ≡ Some r
        → (given o (λ r. asked_at side.Ap c (Ask n) (incoming n r)) s).state.host
        ≡ without_all (interfaces_of p s.host) s.host
    arrived None e = absurd (none-some e)
    arrived (Some x) e =
        subst (λ y. (asked_at side.Ap c (Ask n) (incoming n y) s).state.host
        ≡ without_all (interfaces_of p s.host) s.host) (sym (same-some x r e))
        (removed-behind c (incoming n r) p s (host_serves c.number r.kind r.payload s.host) served)

    by : (t : Bool) → t ≡ true → (cond t (arrives side.Ap c (Ask n)) (tell (dropped (Ask n)))
        s).state.host ≡ without_all (interfaces_of p s.host) s.host
    by true e = arrived (request_of n s.bus) made
    by false e = absurd (not-both false e refl)

-- ---- the state after a delivery

-- what is done at a moment that delivers an item
pub delivered-state : (m : Moment) (at : End) (p : Place) (item : Item) → m.event ≡ event.Deliver at
    → place_of at m.before.bus.connections ≡ Some p
    → first (queue p.side p.connection) ≡ Some item → refusal m.before (event.Deliver at) ≡ None
    → after m ≡ (handles p.side p.connection item
    (record m.before { bus = popped p.connection.number p.side m.before.bus })).state
unfolding machine_opened
delivered-state m at p item is named front free =
    ap (λ e. (step m.before e).state) is
    ∙ ap (λ o. (decided o (event.Deliver at) m.before).state) free
    ∙ ap (λ o. (given o delivers_at m.before).state) named
    ∙ ap (λ o. (given o (λ x. on_bus (popped p.connection.number p.side) ▸ handles p.side
    p.connection x) m.before).state) front

-- one at the application processor isn't refused
pub ap-free : (m : Moment) (at : End) (p : Place) (item : Item)
    → place_of at m.before.bus.connections ≡ Some p → p.side ≡ side.Ap
    → first (queue p.side p.connection) ≡ Some item → refusal m.before (event.Deliver at) ≡ None
ap-free m at p item named ap_side front =
    deliver-allowed m.before at p item (subst (λ e. is_end_unplugged e m.before ≡ false)
    (sym (ap (λ s. end_of s p.connection) ap_side)
    ∙ (place-is at m.before.bus.connections p named).is) refl) named front

-- An interface of a module is absent once the removal of that is handled.
pub removed-absent : (m : Moment) (at : End) (p : Place) (n q i : ℕ) (r : Request)
    → m.event ≡ event.Deliver at → place_of at m.before.bus.connections ≡ Some p
    → p.side ≡ side.Ap → first (queue p.side p.connection) ≡ Some (Ask n)
    → request_of n m.before.bus ≡ Some r → link_of p.connection.number m.before.host ≡ None
    → (host_serves p.connection.number r.kind r.payload m.before.host).notices ≡ Some
    (host_event.Removed q) → IsIn i (interfaces_of q m.before.host)
    → interface_of i (after m).host ≡ None
removed-absent m at p n q i r is named ap_side front made none notices known =
    ap (λ (s : State). interface_of i s.host)
    (delivered-state m at p (Ask n) is named front (ap-free m at p (Ask n) named ap_side front))
    ∙ ap (interface_of i) (by p.side ap_side)
    ∙ all-absent i (interfaces_of q m.before.host) m.before.host known
  where
    by : (s : Side) → s ≡ side.Ap → (handles s p.connection (Ask n) (record m.before {
      bus = popped p.connection.number p.side m.before.bus;
    })).state.host ≡ without_all (interfaces_of q m.before.host) m.before.host
    by side.Ap e = removed-handles p.connection n q r
        (record m.before { bus = popped p.connection.number p.side m.before.bus }) none made
        (serves-notice p.connection.number r.kind r.payload m.before.host (host_event.Removed q)
        notices)
    by side.Far e = absurd cc
