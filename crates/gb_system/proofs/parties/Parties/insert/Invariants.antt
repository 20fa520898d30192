-- The parts that were plugged so far, and those that are left.
use Rattle.std.proofs.Common.{drop, map}
use Rattle.gb_formats.specs.Module.{module_of_kind}
use Rattle.gb_machine.specs.State.{State}
use Rattle.gb_system.proofs.Pluggings.{IsPlugging}
use Rattle.gb_system.specs.Stands.{PartiesStand}
use Rattle.gb_system.proofs.parties.Parties.insert.Given as goal

abbrev pub invariant-loop-i : goal.invariant-loop-i
invariant-loop-i l = (s : State) → PartiesStand l.fn.self s
    → IsPlugging l.self s l.intf l.count l.i (map module_of_kind l.kind-items)
    (map module_of_kind (drop l.i l.kind-items)) l.fn.told
