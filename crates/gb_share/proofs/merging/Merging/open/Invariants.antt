-- Some lines of requester 0 were placed.
use Rattle.std.proofs.Common.{◌≡◌, List, length}
use Rattle.gb_base.specs.declared.parts.Asked.{Asked}
use Rattle.gb_machine.specs.State.{State}
use Rattle.gb_share.specs.Placing.{Begins, left}
use Rattle.gb_share.proofs.merging.Merging.open.Given as goal

abbrev pub invariant-loop-next : goal.invariant-loop-next
invariant-loop-next l = record {
  hex : l.self.hex ≡ l.initial.self.hex;
  begins : (asked : List Asked) (last : State) → Begins asked l.initial.self l.initial.events last
      → Begins asked l.self l.events last;
}

abbrev pub decreases-loop-next : goal.decreases-loop-next
decreases-loop-next l = length (left l.self 0)
