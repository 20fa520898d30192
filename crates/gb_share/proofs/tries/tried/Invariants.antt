use Rattle.std.proofs.Common.{◌≡◌, ◌≤◌, length}
use Rattle.gb_desk.specs.Passes.{IsOf}
use Rattle.gb_desk.specs.Rules.{all_parts}
use Rattle.gb_share.specs.Doing.{Stays}
use Rattle.gb_share.specs.Hands.{knows}
use Rattle.gb_share.specs.Uses.{Grows}
use Rattle.gb_share.proofs.tries.tried.Given as goal

-- nothing was done
abbrev pub invariant-loop-tries : goal.invariant-loop-tries
invariant-loop-tries l = record {
  own : IsOf l.desk l.hand.pass;
  stays : Stays (knows l.initial.hand) (knows l.hand);
  grows : Grows 0 (knows l.initial.hand) (knows l.hand);
  parts : (knows l.hand).parts ≡ (knows l.initial.hand).parts;
  few : length (knows l.hand).tickets ≤ length (knows l.initial.hand).tickets;
  alone : (knows l.initial.hand).parts ≡ all_parts → l.hand ≡ l.initial.hand;
}
