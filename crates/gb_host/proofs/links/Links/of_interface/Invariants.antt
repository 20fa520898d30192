-- Those of the interface among the places not looked at yet come after those that were.
use Rattle.std.proofs.Common.{◌≡◌, ◌==◌, ◌++◌, drop}
use Rattle.std.specs.List.{filter}
use Rattle.gb_base.specs.declared.interface.Link.{Link}
use Rattle.gb_host.specs.Places.{there_in}
use Rattle.gb_host.proofs.links.Links.of_interface.Given as goal

abbrev pub invariant-loop-place : goal.invariant-loop-place
invariant-loop-place l =
    l.links ++ filter (λ (m : Link). m.intf == l.intf) (there_in (drop l.place-index l.place-items))
    ≡ filter (λ (m : Link). m.intf == l.intf) (there_in l.place-items)
