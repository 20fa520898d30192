-- The lines of some events were placed.
use Rattle.std.proofs.Common.{◌≡◌, List, length}
use Rattle.gb_base.specs.declared.parts.Asked.{Asked}
use Rattle.gb_machine.specs.State.{State}
use Rattle.gb_share.specs.Placing.{HasLed}
use Rattle.gb_share.proofs.merging.Merging.follow.Given as goal

abbrev pub invariant-loop-done : goal.invariant-loop-done
invariant-loop-done l = record {
  hex : l.self.hex ≡ l.initial.self.hex;
  led : (asked : List Asked) (last : State) → HasLed asked l.initial.self l.initial.events last
      → HasLed asked l.self l.events last;
}

abbrev pub decreases-loop-done : goal.decreases-loop-done
decreases-loop-done l = length l.events
