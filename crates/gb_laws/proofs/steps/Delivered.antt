-- What is known of a request that is served at a moment.
use Rattle.std.proofs.Common.{Some, ap, refl, subst, sym, ℕ, ◌∙◌, ◌≡◌}
use Rattle.gb_base.specs.declared.end.{End.End, Side.Side}
use Rattle.gb_base.specs.declared.end.End.TheVariants as end
use Rattle.gb_base.specs.declared.end.Side.TheVariants as side
use Rattle.gb_base.specs.declared.event.Event.TheVariants as event
use Rattle.gb_base.specs.declared.host_event.HostEvent.{HostEvent}
use Rattle.gb_machine.specs.Bus.{Bus, Connection, Item, Place, place_of, queue}
use Rattle.gb_machine.specs.{Delivery.popped, HostServing.host_serves, Incoming.Incoming}
use Rattle.gb_machine.specs.{Incoming.request_in, Lists.first, Runs.Moment, State.State}
use Rattle.gb_invariants.proofs.Selves.{module-no-svc}
use Rattle.gb_laws.proofs.{points.PointParts.IsNoticed, points.PointParts.IsServed}
use Rattle.gb_laws.proofs.{points.Points.IsAfterReply}
use Rattle.gb_laws.proofs.{points.Points.IsServing}

-- What is served is what was delivered at this moment, which was taken alone, or was held
-- by a module.
pub data IsTaken (m : Moment) (s : State) (c : Connection) : Side → Incoming → Type 0 where
  delivered : (at : End) (p : Place) (item : Item) (q : Incoming) → m.event ≡ event.Deliver at
      → place_of at m.before.bus.connections ≡ Some p
      → first (queue p.side p.connection) ≡ Some item
      → p.connection ≡ c → request_in item m.before.bus ≡ Some q
      → s ≡ record m.before { bus = popped p.connection.number p.side m.before.bus }
      → IsTaken m s c p.side q
  answered : (i p : ℕ) (q : Incoming) → c.peer ≡ end.Module i p → IsTaken m s c side.Far q

-- at the application processor it was delivered
pub served-at : (m : Moment) (s : State) (c : Connection) (at : Side) (q : Incoming)
    → IsTaken m s c at q → at ≡ side.Ap → IsServed m c.number q.kind q.payload
served-at m s c at q (delivered to p item r event_is named front is made from) ap_side = record {
  at = to;
  place = p;
  item = item;
  request = r;
  event = event_is;
  named = named;
  side = ap_side;
  front = front;
  made = made;
  on = ap (λ (x : Connection). x.number) is;
  kind = refl;
  payload = refl;
}
served-at m s c at q (answered i p r peer) ap_side = absurd cc

pub noticed : (m : Moment) (s : State) (c : Connection) (at : Side) (q : Incoming) (e : HostEvent)
    → IsTaken m s c at q → at ≡ side.Ap
    → (host_serves c.number q.kind q.payload m.before.host).notices ≡ Some e → IsNoticed m e
noticed m s c at q e (delivered to p item r event_is named front is made from) ap_side h = record {
  at = to;
  place = p;
  item = item;
  request = r;
  event = event_is;
  named = named;
  side = ap_side;
  front = front;
  made = made;
  notices = ap (λ (x : Connection). (host_serves x.number r.kind r.payload m.before.host).notices)
      is ∙ h;
}
noticed m s c at q e (answered i p r peer) ap_side h = absurd cc

-- what the supervisory controller serves stands in front toward it
pub serving-of : (m : Moment) (s u : State) (c : Connection) (at : Side) (q : Incoming)
    → IsTaken m s c at q → at ≡ side.Far → c.peer ≡ end.Svc
    → IsAfterReply c.number at q s.bus u.bus → u.host ≡ s.host → u.ports ≡ s.ports
    → u.past ≡ s.past → IsServing m u q
serving-of m s u c at q (delivered to p item r event_is named front is made from) far peer way host
    ports past = record {
      at = to;
      place = p;
      item = item;
      event = event_is;
      named = named;
      far = far;
      svc = ap (λ (x : Connection). x.peer) is ∙ peer;
      front = front;
      made = made;
      host = host ∙ ap (λ (t : State). t.host) from;
      ports = ports ∙ ap (λ (t : State). t.ports) from;
      past = past ∙ ap (λ (t : State). t.past) from;
      bus = subst (λ t. IsAfterReply p.connection.number side.Far r
          (popped p.connection.number t m.before.bus) u.bus) far
          (subst (λ t. IsAfterReply p.connection.number t r
          (popped p.connection.number p.side m.before.bus) u.bus) far
          (subst (λ (b : Bus). IsAfterReply p.connection.number p.side r b u.bus)
          (ap (λ (t : State). t.bus) from)
          (subst (λ (x : Connection). IsAfterReply x.number p.side r s.bus u.bus) (sym is) way)));
    }
serving-of m s u c at q (answered i p r module_peer) far peer way host ports past =
    absurd (module-no-svc (sym module_peer ∙ peer))
