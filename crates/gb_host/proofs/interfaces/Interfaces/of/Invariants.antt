-- Those of the module among the interfaces not looked at yet come after those that were.
use Rattle.std.proofs.Common.{◌≡◌, ◌++◌, drop, map}
use Rattle.std.specs.List.{filter}
use Rattle.gb_machine.specs.Host.{has_primary}
use Rattle.gb_host.proofs.interfaces.Interfaces.of.Given as goal

abbrev pub invariant-loop-interface : goal.invariant-loop-interface
invariant-loop-interface l =
    l.intfs ++ map (λ x. x.intf)
    (filter (has_primary l.primary) (drop l.interface-index l.interface-items))
    ≡ map (λ x. x.intf) (filter (has_primary l.primary) l.interface-items)
