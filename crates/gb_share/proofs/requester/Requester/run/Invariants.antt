use Rattle.std.proofs.Common.{◌≡◌, ◌-◌, length}
use Rattle.gb_desk.specs.Passes.{IsOf}
use Rattle.gb_share.specs.Alone.{IsAlone}
use Rattle.gb_share.specs.Hands.{knows}
use Rattle.gb_share.specs.Requesters.{Runs}
use Rattle.gb_share.specs.Uses.{Uses, lines_left}
use Rattle.gb_share.proofs.requester.Requester.run.Given as goal

-- some lines were run
abbrev pub invariant-loop-alloc : goal.invariant-loop-alloc
invariant-loop-alloc g l = record {
  own : IsOf l.desk l.hand.pass;
  parts : (knows l.hand).parts ≡ (knows l.initial.hand).parts;
  who : l.self.who ≡ l.initial.self.who;
  lines : l.self.lines ≡ l.initial.self.lines;
  runs : Runs l.initial.self l.self (knows l.initial.hand) (knows l.hand);
  left : Uses (lines_left l.initial.self) (lines_left l.self) (knows l.initial.hand)
      (knows l.hand);
  alone : IsAlone l.initial.self (knows l.initial.hand) l.initial.hand.held.items
      → IsAlone l.self (knows l.hand) l.hand.held.items;
}

abbrev pub decreases-loop-alloc : goal.decreases-loop-alloc
decreases-loop-alloc g l = length l.self.lines - length l.self.full
