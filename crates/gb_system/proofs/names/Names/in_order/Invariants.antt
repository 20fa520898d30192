-- The names that were inserted and those not looked at are all.
use Rattle.std.proofs.Common.{◌≡◌}
use Rattle.gb_system.proofs.HashedNames.{inserted}
use Rattle.gb_system.proofs.names.Names.in_order.Given as goal

abbrev pub invariant-loop-name : goal.invariant-loop-name
invariant-loop-name l =
    (goal.iterator-loop-name).can_next l.name-iterator
    × (goal.iterator-loop-name).is_finite l.name-iterator
    × (inserted l.names.entries l.name-iterator ≡ l.self)
