-- The lines so far, and those of the names not looked at yet, are all.
use Rattle.std.proofs.Common.{◌≡◌, ◌++◌}
use Rattle.std.specs.String.{string_bytes}
use Rattle.gb_bus.specs.Stands.{Around, Stands}
use Rattle.gb_machine.specs.Bus as machine
use Rattle.gb_machine.specs.Shared.{tickets_text}
use Rattle.gb_system.specs.Showing.{AreTold}
use Rattle.gb_system.proofs.tickets.append_names.Given as goal

abbrev pub invariant-loop-name : goal.invariant-loop-name
invariant-loop-name l =
    (goal.iterator-loop-name).can_next l.name-iterator
    × (goal.iterator-loop-name).is_finite l.name-iterator
    × ((around : Around) (b : machine.Bus) → Stands around l.bus b → AreTold around.names l.names b
    → AreTold around.names l.name-iterator b
    × (string_bytes l.out ++ tickets_text b l.name-iterator
    ≡ string_bytes l.fn.out ++ tickets_text b l.names))
