-- From all runs to the states that they lead to.
use Rattle.std.proofs.Common.{[], subst}
use Rattle.gb_machine.specs.{Reached.OfARun, State.State}
use Rattle.gb_laws.proofs.links.LinkRuns.{LinkedTo, linked-throughout}
use Rattle.gb_laws.proofs.runs.AllRuns.{of-all, of-state}
use Rattle.gb_laws.proofs.runs.Runs.{HoldsByMoments, weaker}

-- A fact that every run of moments leads to.
pub reached-has : (Fact : State → Type 0) → HoldsByMoments (λ told s. Fact s)
    → (s : State) → OfARun s → Fact s
reached-has Fact holds s r =
    subst Fact r.is (of-all (λ told t. Fact t) (of-state Fact) holds r.events r.valid)

-- The bus keeps its facts, the application processor's connections go with it, and insertions and
-- removals come in turn.
pub reached-told : (s : State) → OfARun s → LinkedTo [] s
reached-told = reached-has (LinkedTo []) (weaker LinkedTo (λ told s. LinkedTo [] s) (λ told s h. (
  record {
    bus = h.0.bus;
    names = h.0.names;
    drains = h.0.drains;
    hand = h.0.hand;
  },
  h.1,
  h.2,
  h.3,
)) linked-throughout)
