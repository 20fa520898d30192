-- So many events were passed over.
use Rattle.std.proofs.Common.{◌≡◌, ◌+◌}
use Rattle.gb_script.proofs.made_script.made.Given as goal

abbrev pub invariant-loop : goal.invariant-loop
invariant-loop l = record {
  seed : l.maker.seed ≡ l.seed;
  given : l.maker.given + 1 ≡ l.counter;
}
