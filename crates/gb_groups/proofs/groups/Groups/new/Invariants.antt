-- There are so many lists, and none has a number.
use Rattle.std.proofs.Common.{◌≡◌, [], ℕ, length}
use Rattle.gb_groups.specs.Groups.{numbers_in, numbers_of}
use Rattle.gb_groups.proofs.groups.Groups.new.Given as goal

abbrev pub invariant-loop : goal.invariant-loop
invariant-loop l = record {
  many : length l.lists.items ≡ l.counter;
  none : (g : ℕ) → numbers_in (numbers_of l.lists.items) g ≡ [];
}
