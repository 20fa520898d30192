-- The connections not looked at yet are left after those that were.
use Rattle.std.proofs.Common.{◌≡◌, ◌++◌, drop}
use Rattle.gb_machine.specs.HostTurns.{links_left}
use Rattle.gb_host.specs.Turning.{spelled}
use Rattle.gb_host.proofs.removing.close_all.Given as goal

abbrev pub invariant-loop-link : goal.invariant-loop-link
invariant-loop-link l =
    l.acts ++ spelled (links_left (drop l.link-index l.links))
    ≡ l.fn.acts ++ spelled (links_left l.links)
