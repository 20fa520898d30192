-- Nothing follows the end of a request that no sequence waits for.
use Rattle.std.proofs.Common.{◌≡◌, ℕ, false, Option, None, Some, [], refl, ap}
use Rattle.std.specs.Option.{is_some}
use Rattle.gb_base.specs.declared.host_event.HostEvent.TheVariants as host_event
use Rattle.gb_base.specs.declared.outcome.Outcome.{Outcome}
use Rattle.gb_machine.specs.Host as machine
use Rattle.gb_machine.specs.HostTurns.{ended_for, host_turn}
use Rattle.gb_machine.specs.Turns.{turn}
use Rattle.gb_machine.specs.Waits.{awaited}

-- there is none, where the test says so
pub none-awaited : {A : Type 0} (o : Option A) → is_some o ≡ false → o ≡ None
none-awaited None h = refl
none-awaited (Some x) h = absurd cc

-- its turn changes nothing and has no acts
pub none-ended : (n : ℕ) (how : Outcome) (h : machine.Host) → awaited n h ≡ None
    → host_turn (host_event.Ended n how) h ≡ turn h []
none-ended n how h none = ap (λ o. ended_for o how h) none

-- the same, where the test says so
pub unawaited-ended : (n : ℕ) (how : Outcome) (h : machine.Host) → is_some (awaited n h) ≡ false
    → host_turn (host_event.Ended n how) h ≡ turn h []
unawaited-ended n how h idle = none-ended n how h (none-awaited (awaited n h) idle)
