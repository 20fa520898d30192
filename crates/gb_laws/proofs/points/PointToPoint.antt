-- What stays from one point of a step to the next: requests, the time, and what was unwired.
use Rattle.std.proofs.Common.{None, arith, refl, sym, ◌∙◌, ◌≡◌, ◌≢◌, ◌≤◌}
use Rattle.gb_machine.specs.Runs.{Moment}
use Rattle.gb_invariants.proofs.BusChanges.{BusChange, KeepsRequests, left_by}
use Rattle.gb_invariants.proofs.Wires.{StaysUnwired, WasWired, stays-unwired, was-wired, wires_of}
use Rattle.gb_laws.proofs.points.ChangeBuses.{bus_change, by-bus, keeps-requests}
use Rattle.gb_laws.proofs.points.PointParts.{Point, Untouched, Unwired, Wired}
use Rattle.gb_laws.proofs.points.Points.{Change, acts_asked, acts_left, changed, unwires, wires}
use Rattle.gb_laws.proofs.points.Awaited.{awaited-rest}

still-apart : Untouched ≡ Unwired → ⊥
still-apart e = absurd cc

pub record StaysTo (a after : Point) : Type 0 where
  pub requests : KeepsRequests a.state.bus after.state.bus
  pub now : a.state.now ≤ after.state.now
  pub forth : a.wires ≡ Unwired → (after.wires ≡ Unwired) × StaysUnwired a.state.bus after.state.bus
  pub back : after.wires ≢ Wired → (a.wires ≢ Wired) × WasWired a.state.bus after.state.bus

-- what becomes of wires is told by what the change does to the bus
stays-to-by : (m : Moment) (a : Point) (x : Change m a) → a.state.now ≤ (changed m a x).state.now
    → wires_of (bus_change x) ≡ None → left_by (bus_change x) ≡ None → (changed m a x).wires ≡
    a.wires → StaysTo a (changed m a x)
stays-to-by m a x now none left same = record {
  requests = keeps-requests m a x;
  now = now;
  forth = λ e. (
    same ∙ e,
    by-bus (StaysUnwired a.state.bus) x (stays-unwired (bus_change x) a.state.bus none left),
  );
  back = λ n. (
    λ e. n (same ∙ e),
    by-bus (WasWired a.state.bus) x (was-wired (bus_change x) a.state.bus none),
  );
}

-- What stays over each single change.
pub stays-to : (m : Moment) (a : Point) (x : Change m a) → StaysTo a (changed m a x)
stays-to m a (wires k free untouched live powered) = record {
  requests = λ n r h. h;
  now = omega arith;
  forth = λ e. absurd (still-apart (sym untouched ∙ e));
  back = λ n. absurd (n refl);
}
stays-to m a (unwires k free before live) = record {
  requests = λ n r h. h;
  now = omega arith;
  forth = λ e. (refl, stays-unwired (BusChange.unwires k) a.state.bus refl refl);
  back = λ n. (before, was-wired (BusChange.unwires k) a.state.bus refl);
}
stays-to m a (acts_left k rest free untouched is) = record {
  requests = λ n r h. h;
  now = omega arith;
  forth = λ e. absurd (still-apart (sym untouched ∙ e));
  back = λ n. (n, was-wired (BusChange.leaves k) a.state.bus refl);
}
stays-to m a (acts_asked q n rest is) =
    stays-to-by m a (acts_asked q n rest is)
    (let same = (awaited-rest q.purpose n {s = a.state}).now in omega (arith, same)) refl refl refl
stays-to m a x = stays-to-by m a x (omega arith) refl refl refl
