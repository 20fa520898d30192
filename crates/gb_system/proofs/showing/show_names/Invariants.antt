-- What was told so far, and the lines of the names not looked at yet, is all.
use Rattle.std.proofs.Common.{◌≡◌, ◌++◌, map}
use Rattle.gb_bus.specs.Stands.{Around, Stands}
use Rattle.gb_machine.specs.Bus as machine
use Rattle.gb_machine.specs.Show.{name_shown}
use Rattle.gb_system.specs.Showing.{AreTold, lines}
use Rattle.gb_system.proofs.showing.show_names.Given as goal

abbrev pub invariant-loop-name : goal.invariant-loop-name
invariant-loop-name l =
    (goal.iterator-loop-name).can_next l.name-iterator
    × (goal.iterator-loop-name).is_finite l.name-iterator
    × ((around : Around) (b : machine.Bus) → Stands around l.bus b → AreTold around.names l.names b
    → AreTold around.names l.name-iterator b
    × (l.told ++ lines (map (name_shown b) l.name-iterator)
    ≡ l.fn.told ++ lines (map (name_shown b) l.names)))
