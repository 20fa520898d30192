-- The interfaces so far are left.
use Rattle.std.proofs.Common.{◌≡◌, ◌++◌, take}
use Rattle.gb_host.specs.Stands.{host_of}
use Rattle.gb_host.specs.Turning.{spelled}
use Rattle.gb_machine.specs.HostTurns.{host_removed, one_by_one}
use Rattle.gb_host.proofs.host.Host.leave_module.Given as goal

abbrev pub invariant-loop-i : goal.invariant-loop-i
invariant-loop-i l =
    l.acts ≡ l.fn.acts
    ++ spelled (one_by_one host_removed (take l.i l.intfs) (host_of l.self)).acts
