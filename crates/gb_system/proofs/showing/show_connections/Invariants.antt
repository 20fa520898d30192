-- What was told so far, and the lines of those not looked at yet, is all.
use Rattle.std.proofs.Common.{◌≡◌, ◌++◌, drop, map}
use Rattle.gb_host.specs.Stands.{host_of}
use Rattle.gb_system.specs.Showing.{known_shown, lines}
use Rattle.gb_system.proofs.showing.show_connections.Given as goal

abbrev pub invariant-loop-connection : goal.invariant-loop-connection
invariant-loop-connection l =
    l.told ++ lines (map (known_shown (host_of l.host)) (drop l.connection-index l.known))
    ≡ l.fn.told ++ lines (map (known_shown (host_of l.host)) l.known)
