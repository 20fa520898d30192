-- What is wired is routed.
use Rattle.std.proofs.Common.{subst, sym, true, [], ◌≡◌, ◌≢◌}
use Rattle.gb_machine.specs.{Bus.Connection, LawsSvc.AreRouted, LawsSvc.IsRouted, Members.IsIn}
use Rattle.gb_machine.specs.{State.State}
use Rattle.gb_invariants.proofs.Lists.{each-from}
use Rattle.gb_laws.proofs.links.Links.{IsKnown, leaving, linked, supervisory}
use Rattle.gb_laws.proofs.{links.LinkFrom.Linked, runs.Runs.HoldsByMoments, runs.Runs.weaker}
use Rattle.gb_laws.proofs.{svc.WiredRuns.WiredTo}
use Rattle.gb_laws.proofs.{svc.WiredRuns.wired-throughout, svc.WiredWell.WiredFit}

routed-at : (s : State) → Linked s.bus s.host [] → WiredFit s → (c : Connection)
    → IsIn c s.bus.connections → c.wired ≡ true → c.number ≢ 1 → IsRouted s c.peer
routed-at s links well c live wired other = by (links.known c live)
  where
    by : IsKnown c s.host.links [] → IsRouted s c.peer
    by (supervisory one) = absurd (other one)
    by (linked l i of) = subst (IsRouted s) (sym of.peer) (
      well.wired c live wired l.intf l.cport of.peer,
      well.routed c live wired l.intf l.cport of.peer,
    )
    by (leaving i) = absurd i

-- What is wired is at a routed interface where a module is plugged.
pub routed-by_moments : HoldsByMoments AreRouted
routed-by_moments = weaker WiredTo AreRouted
    (λ told s h. each-from (λ c. c.wired ≡ true → c.number ≢ 1 → IsRouted s c.peer)
    s.bus.connections (routed-at s h.links.1 h.wired)) wired-throughout
