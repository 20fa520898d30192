-- The copy so far is the front of the list.
use Rattle.std.proofs.Common.{◌≡◌, take}
use Rattle.gb_base.proofs.sequence.SequenceTryCopy.copy.Given as goal

abbrev pub invariant-loop-member : goal.invariant-loop-member
invariant-loop-member g l = l.members.items ≡ take l.member-index l.member-items
