-- The first stands among those not looked at yet.
use Rattle.std.proofs.Common.{◌≡◌, drop}
use Rattle.std.specs.List.{position_from}
use Rattle.gb_host.specs.Places.{has}
use Rattle.gb_host.specs.Sought.{passes}
use Rattle.gb_host.proofs.places.Sought.walked.Given as goal

abbrev pub invariant-loop-i : goal.invariant-loop-i
invariant-loop-i l =
    position_from (has (passes l.self)) l.i (drop l.i l.places)
    ≡ position_from (has (passes l.self)) 0 l.places
