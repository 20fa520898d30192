-- Live connections have ends of their own.
use Rattle.std.proofs.Common.{List, Some, ap, arith, subst, sym, ⊎_elim, [], ◌∙◌, ◌∷◌, ◌≡◌, ◌≤◌}
use Rattle.gb_base.specs.declared.end.End.TheVariants as end
use Rattle.gb_base.specs.declared.entry.Entry.{Entry}
use Rattle.gb_machine.specs.Bus.{Bus, Connection, same_end}
use Rattle.gb_machine.specs.Members.{Each, EachTwo, IsIn}
use Rattle.gb_machine.specs.Turns.{Act, Asking, Making}
use Rattle.gb_machine.specs.{Host.Host, LawsBus.AreApart, LawsBus.HaveOwnEnds, Runs.Moment}
use Rattle.gb_machine.specs.{State.State, State.first_state, Wiring.new_connection}
use Rattle.gb_machine.specs.{Wiring.next_connection}
use Rattle.gb_invariants.proofs.{Awaiting.same-some, BusChanges.apart-after, BusChanges.made_by}
use Rattle.gb_invariants.proofs.{Lists.each-from, Lists.each-in}
use Rattle.gb_invariants.specs.Facts.{IsMade}
use Rattle.gb_laws.proofs.links.LinkRuns.{LinkedTo, linked-over, linked-throughout, start-absent}
use Rattle.gb_laws.proofs.links.Links.{ArePending, IsFree, IsKnown, leaving, linked, supervisory}
use Rattle.gb_laws.proofs.points.Points.{Change, Law, acts_made, changed, upon}
use Rattle.gb_laws.proofs.runs.Runs.{HoldsByMoments, Keeps, throughout, weaker}
use Rattle.gb_laws.proofs.{points.ChangeBuses.bus_change, points.ChangeBuses.by-bus}
use Rattle.gb_laws.proofs.{links.LinkFrom.Linked}
use Rattle.gb_laws.proofs.{links.LinkKept.InsertsAbsent, links.LinkKept.LinkedAt}
use Rattle.gb_laws.proofs.{links.LinkLaw.link_law}
use Rattle.gb_laws.proofs.{points.PointParts.Basis, points.PointParts.Point, steps.Steps.over-step}

-- live connections are apart
abbrev pub ApartAt : Point → Type 0
ApartAt a = EachTwo AreApart a.state.bus.connections

-- a new connection is apart from each that is live
new-apart : {b : Bus} {h : Host} (w : Making) (q : Asking) (c : Connection)
    → Linked b h (Act.Make w q ∷ []) → IsIn c b.connections → c.number ≤ b.made
    → IsFree w q h → AreApart c (new_connection (next_connection b) w.ap (end.Module w.intf w.cport)
    w.protocol)
new-apart {b} {h} w q c links live high free = by (links.known c live)
  where
    by : IsKnown c h.links (Act.Make w q ∷ [])
        → AreApart c (new_connection (next_connection b) w.ap (end.Module w.intf w.cport)
        w.protocol)
    by (supervisory one) = let s = links.svc c live one in record {
      numbers = λ e. omega (arith, high, e);
      aps = λ e. let low = free.from_one in omega (arith, low, e, s.ap);
      peers = ap (λ p. same_end p (end.Module w.intf w.cport)) s.peer;
    }
    by (linked l i of) = record {
      numbers = λ e. omega (arith, high, e);
      aps = λ e. free.ap l i (sym of.ap ∙ e);
      peers = ap (λ p. same_end p (end.Module w.intf w.cport)) of.peer ∙ free.at l i;
    }
    by (leaving i) = ⊎_elim (λ e. absurd cc) (λ n. absurd n) i

pub apart-kept : (m : Moment) (a : Point) (x : Change m a) → Basis a → LinkedAt a → ApartAt a
    → ApartAt (changed m a x)
apart-kept m a x basis links h = by-bus (λ b. EachTwo AreApart b.connections) x
    (apart-after (bus_change x) a.state.bus (own x) h)
  where
    own : (x : Change m a) (c : Connection) → made_by (bus_change x) a.state.bus ≡ Some c
        → Each (λ y. AreApart y c) a.state.bus.connections
    own (acts_made w q rest free is) c e =
        subst (λ z. Each (λ y. AreApart y z) a.state.bus.connections) (same-some _ c e)
        (each-from (λ y. AreApart y _) a.state.bus.connections (λ y live. new-apart w q y
        (subst (λ r. Linked a.state.bus a.state.host (Act.Make w q ∷ r))
        (subst (ArePending a.state.host) is links.pending).0.1
        (subst (Linked a.state.bus a.state.host) is links))
        live (each-in (IsMade a.state.bus) a.state.bus.connections y basis.bus.numbers.range live).1
        (subst (ArePending a.state.host) is links.pending).0.0))
    own _ c e = absurd cc

abbrev apart_law : (m : Moment) → InsertsAbsent m → Law m
apart_law m absent =
    upon (link_law m absent) ApartAt (λ a x g h. apart-kept m a x g.0 g.1 h)

-- with what is known of connections
pub record ApartTo (told : List Entry) (s : State) : Type 0 where
  pub links : LinkedTo told s
  pub apart : EachTwo AreApart s.bus.connections

-- a moment keeps it
pub apart-over : Keeps ApartTo
apart-over m one h = record {
  links = linked-over m one h.links;
  apart = (over-step m (apart_law m (start-absent m h.links)) one
      ((h.links.0, h.links.1), h.apart)).1.1;
}

-- and so it holds throughout
pub apart-first : ApartTo [] first_state
apart-first = record { links = linked-throughout [] tt; apart = (tt, tt) }

pub apart-throughout : HoldsByMoments ApartTo
apart-throughout = throughout ApartTo apart-first apart-over

-- Live connections have ends of their own.
pub endpoints-by_moments : HoldsByMoments HaveOwnEnds
endpoints-by_moments = weaker ApartTo HaveOwnEnds (λ told s h. h.apart) apart-throughout
