-- The request stands among those not looked at yet.
use Rattle.std.proofs.Common.{◌≡◌, drop}
use Rattle.gb_machine.specs.Loading.{load_of}
use Rattle.gb_system.proofs.loads.Loads.of.Given as goal

abbrev pub invariant-loop-load : goal.invariant-loop-load
invariant-loop-load l =
    load_of l.number (drop l.load-index l.load-items) ≡ load_of l.number l.load-items
