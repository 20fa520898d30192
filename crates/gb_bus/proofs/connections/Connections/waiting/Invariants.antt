-- What was told so far, and what the ends not looked at yet have, is all.
use Rattle.std.proofs.Common.{◌≡◌, ◌++◌, drop, map}
use Rattle.gb_bus.specs.Overview.{waiting_at}
use Rattle.gb_bus.proofs.connections.Connections.waiting.Given as goal

abbrev pub invariant-loop-at : goal.invariant-loop-at
invariant-loop-at l =
    l.waiting ++ map (waiting_at l.self) (drop l.at-index l.at-items)
    ≡ map (waiting_at l.self) l.at-items
