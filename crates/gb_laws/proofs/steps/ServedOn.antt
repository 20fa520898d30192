-- The connection that a request to the supervisory controller speaks of.
use Rattle.std.proofs.Common.{Bool, List, Some, false, refl, ℕ, ◌≡◌}
use Rattle.std.specs.Prelude.{◌==◌}
use Rattle.gb_base.specs.declared.end.End.{End}
use Rattle.gb_base.specs.declared.end.End.TheVariants as end
use Rattle.gb_machine.specs.Bus.{Bus, Connection, connection_of, same_end}
use Rattle.gb_machine.specs.SvcTable.{Answered, Create, Destroy, SvcServed, Unroute, svc_step}
use Rattle.gb_machine.specs.Wiring.{is_wired_to, joining, joins}
use Rattle.gb_machine.specs.{Incoming.Incoming, Members.IsIn, Ports.unrouted, Runs.Moment}
use Rattle.gb_machine.specs.{State.Port, State.State}
use Rattle.gb_invariants.proofs.{Lists.found-in, Outcomes.both-true, Outcomes.same-number}
use Rattle.gb_laws.proofs.points.Points.{IsLive, IsServing, PortsFrom}
use Rattle.gb_laws.proofs.points.Places.{same_end-is}

-- ---- the connection that a request to the supervisory controller speaks of

-- it is live, and at a module
pub joining-live : (a i c : ℕ) (b : Bus) (x : Connection) (t : Bool) → joining a i c b ≡ Some x
    → x.wired ≡ t → (l : IsLive x.number t b) × (l.intf ≡ i) × (l.cport ≡ c) × (l.connection.ap ≡ a)
joining-live a i c b x t h w =
    let f = found-in (joins a i c) b.connections x h in
    let p = both-true (x.ap == a) (same_end x.peer (end.Module i c)) f.1 in (
      record {
        connection = x;
        live = f.0;
        number = refl;
        wired = w;
        intf = i;
        cport = c;
        peer = same_end-is x.peer (end.Module i c) p.1;
      },
      refl,
      refl,
      same-number x.ap a p.0,
    )

-- what has the number of a connection has its far end
abbrev pub HasPeer : ℕ → End → Bus → Type 0
HasPeer k e b = (c : Connection) → connection_of k b ≡ Some c → c.peer ≡ e

-- where the levels of what is served come from, and what is served where a connection is wired
abbrev pub Comes : (m : Moment) (u : State) → SvcServed → List Port → Type 0
Comes m u (Answered result payload) ports = PortsFrom m u ports
Comes m u (Create a i c) ports = (q : Incoming) × IsServing m u q
    × ((svc_step m.before.ports q.kind q.payload).served ≡ Create a i c)
Comes m u (Destroy a i c) ports = Unit {0}
Comes m u (Unroute i) ports =
    ((c : Connection) → IsIn c u.bus.connections → is_wired_to i c ≡ false)
    → PortsFrom m u (unrouted i ports)

-- the application processor is as before a moment, and no request was made
abbrev pub IsAsBefore : Moment → State → Type 0
IsAsBefore m s = (s.host ≡ m.before.host) × (s.bus.requests ≡ m.before.bus.requests)
