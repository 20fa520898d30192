use Rattle.std.proofs.Common.{◌≡◌, ◌<◌, ℕ, Some}
use Rattle.std.specs.List.{slice_get}
use Rattle.gb_desk.specs.Passes.{IsOf}
use Rattle.gb_desk.specs.Rules.{all_parts}
use Rattle.gb_desk.specs.declared.view.View.{View}
use Rattle.gb_share.specs.Hands.{knows}
use Rattle.gb_share.specs.Requesters.{AreSame, HaveRun, IsWhole}
use Rattle.gb_share.specs.Uses.{Uses, all_left}
use Rattle.gb_share.specs.declared.requester.Requester.{Requester}
use Rattle.gb_share.proofs.sharing.run_rest.Given as goal

-- the requesters before this one have run all their lines
abbrev pub invariant-loop-at : goal.invariant-loop-at
invariant-loop-at l = record {
  own : IsOf l.desk l.hand.pass;
  parts : (knows l.hand).parts ≡ all_parts;
  same : AreSame l.initial.all l.all;
  ran : (v : View) → HaveRun l.initial.all v (knows l.initial.hand)
      → HaveRun l.all v (knows l.hand);
  left : Uses (all_left l.initial.all) (all_left l.all) (knows l.initial.hand) (knows l.hand);
  whole : (n : ℕ) (x : Requester) → n < l.at → slice_get l.all n ≡ Some x → IsWhole x;
}
