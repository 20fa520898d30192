-- The enumerations that haven't begun yet begin after those that did.
use Rattle.std.proofs.Common.{◌≡◌, ◌++◌, drop}
use Rattle.gb_host.specs.Turning.{begun, spelled}
use Rattle.gb_host.proofs.host.Host.begin_all.Given as goal

abbrev pub invariant-loop-intf : goal.invariant-loop-intf
invariant-loop-intf l =
    l.acts ++ spelled (begun (drop l.intf-index l.intfs))
    ≡ l.fn.acts ++ spelled (begun l.intfs)
