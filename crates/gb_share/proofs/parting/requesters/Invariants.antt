-- The first requesters have their lines.
use Rattle.std.proofs.Common.{◌≡◌, length}
use Rattle.gb_share.specs.Parting.{AreFirst}
use Rattle.gb_share.proofs.parting.requesters.Given as goal

abbrev pub invariant-loop-who : goal.invariant-loop-who
invariant-loop-who l = record {
  first : AreFirst l.fn.asked l.all.items;
  long : length l.all.items ≡ l.who;
}
