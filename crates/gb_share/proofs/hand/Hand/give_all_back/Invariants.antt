use Rattle.std.proofs.Common.{◌≡◌}
use Rattle.std.specs.Vec.{vec_len}
use Rattle.gb_desk.specs.Passes.{IsOf}
use Rattle.gb_share.specs.Doing.{IsAlike}
use Rattle.gb_share.specs.Hands.{knows}
use Rattle.gb_share.proofs.hand.Hand.give_all_back.Given as goal

-- some are given back
abbrev pub invariant-loop-left : goal.invariant-loop-left
invariant-loop-left l = record {
  own : IsOf l.desk l.self.pass;
  parts : (knows l.self).parts ≡ (knows l.initial.self).parts;
  stays : IsAlike (knows l.initial.self) (knows l.self);
  left : l.left ≡ vec_len l.self.held;
}

abbrev pub decreases-loop-left : goal.decreases-loop-left
decreases-loop-left l = l.left
