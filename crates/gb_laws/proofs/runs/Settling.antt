-- Every settle is its deliveries.
use Rattle.std.proofs.Common.{ap, arith, false, not, subst, sym, true, [], ◌∙◌, ◌≡◌, ◌≤◌}
use Rattle.std.specs.Prelude.{not}
use Rattle.gb_formats.specs.ValidEvents.{IsEnd}
use Rattle.gb_machine.specs.{Bus.Connection, LawsBus.AreApart, Members.EachTwo, Members.IsIn}
use Rattle.gb_machine.specs.{Refusals.is_end_unplugged, Runs.SettlesAreDeliveries, State.State}
use Rattle.gb_laws.proofs.links.Links.{IsKnown, leaving, linked, supervisory}
use Rattle.gb_laws.proofs.{identifiers.Endpoints.apart-throughout, links.LinkFrom.Linked}
use Rattle.gb_laws.proofs.{runs.Runs.HoldsByMoments}
use Rattle.gb_laws.proofs.{runs.SettleQueues.IsFarEnd, runs.Settles.IsSettleable}
use Rattle.gb_laws.proofs.{runs.Settles.settles-if_settleable, svc.WiredRuns.wired-throughout}
use Rattle.gb_laws.proofs.{svc.WiredWell.WiredFit}

-- what is known of the ends of a connection
pub record EndsKnown (s : State) (c : Connection) : Type 0 where
  pub far : IsFarEnd c.peer
  ap : c.ap ≤ 4095
  plugged : c.wired ≡ true → is_end_unplugged c.peer s ≡ false
  peer : c.wired ≡ true → IsEnd c.peer

pub ends-known : (s : State) (c : Connection) → Linked s.bus s.host [] → WiredFit s
    → IsIn c s.bus.connections → EndsKnown s c
ends-known s c links well live = by (links.known c live)
  where
    by : IsKnown c s.host.links [] → EndsKnown s c
    by (supervisory one) = let v = links.svc c live one in record {
      far = subst IsFarEnd (sym v.peer) tt;
      ap = let zero_ap = v.ap in omega (arith, zero_ap);
      plugged = λ wired. ap (λ e. is_end_unplugged e s) v.peer;
      peer = λ wired. subst IsEnd (sym v.peer) tt;
    }
    by (linked l i of) = let n = links.host.links.numbered l i in record {
      far = subst IsFarEnd (sym of.peer) tt;
      ap = let within = n.within in let same = of.ap in omega (arith, within, same);
      plugged = λ wired. ap (λ e. is_end_unplugged e s) of.peer
          ∙ ap not (well.wired c live wired l.intf l.cport of.peer);
      peer = λ wired. subst IsEnd (sym of.peer)
          (well.range l.intf (well.wired c live wired l.intf l.cport of.peer), n.cport);
    }
    by (leaving i) = absurd i

settleable : (s : State) → EachTwo AreApart s.bus.connections → Linked s.bus s.host [] → WiredFit s
    → IsSettleable s
settleable s apart links well = record {
  deliverable = record {
    apart = apart;
    far = λ c live. (ends-known s c links well live).far;
    plugged = λ c live wired. (ends-known s c links well live).plugged wired;
  };
  ends = λ c live wired. (
    (ends-known s c links well live).ap,
    (ends-known s c links well live).peer wired,
  );
}

-- In every state nothing that waits is refused.
pub settleable-by_moments : HoldsByMoments (λ told s. IsSettleable s)
settleable-by_moments es are =
    settleable _ (apart-throughout es are).apart (wired-throughout es are).links.1
    (wired-throughout es are).wired

-- Every settle is its deliveries.
pub settles-are_deliveries : SettlesAreDeliveries
settles-are_deliveries = settles-if_settleable settleable-by_moments
