-- The numbers found and those not looked at give all.
use Rattle.std.proofs.Common.{◌≡◌, []}
use Rattle.gb_bus.specs.Keeping.{numbers_where}
use Rattle.gb_bus.proofs.Numbers.{whichever}
use Rattle.gb_bus.proofs.numbered.Numbered.numbers.Given as goal

abbrev pub invariant-loop-number : goal.invariant-loop-number
invariant-loop-number l =
    (goal.iterator-loop-number).can_next l.number-iterator
    × (goal.iterator-loop-number).is_finite l.number-iterator
    × (numbers_where whichever l.found.keys l.number-iterator
    ≡ numbers_where whichever [] l.self.map.entries)
