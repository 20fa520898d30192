-- Those not forgotten yet are gone after those that are.
use Rattle.std.proofs.Common.{◌≡◌, drop}
use Rattle.gb_host.specs.Stands.{host_of}
use Rattle.gb_machine.specs.HostTurns.{host_removed, one_by_one}
use Rattle.gb_host.proofs.host.Host.forget.Given as goal

abbrev pub invariant-loop-intf : goal.invariant-loop-intf
invariant-loop-intf l =
    (one_by_one host_removed (drop l.intf-index l.intfs) (host_of l.self)).host
    ≡ (one_by_one host_removed l.intfs (host_of l.fn.self)).host
