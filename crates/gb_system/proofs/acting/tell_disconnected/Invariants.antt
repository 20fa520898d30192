-- What was told so far are the ends of the numbers that were looked at.
use Rattle.std.proofs.Common.{◌≡◌, ◌++◌, map, take}
use Rattle.gb_machine.specs.Wires.{disconnected_told}
use Rattle.gb_system.proofs.acting.tell_disconnected.Given as goal

abbrev pub invariant-loop-number : goal.invariant-loop-number
invariant-loop-number l = l.told
    ≡ l.fn.told ++ map disconnected_told (take l.number-index l.numbers)
