-- The connections so far are gone, and their ids are free.
use Rattle.std.proofs.Common.{◌≡◌, ◌==◌, length}
use Rattle.std.specs.List.{filter}
use Rattle.gb_host.proofs.Sought.{AreSought}
use Rattle.gb_machine.specs.Host.{all_forgotten}
use Rattle.gb_host.proofs.connections.leave_of.Given as goal

abbrev pub invariant-loop-link : goal.invariant-loop-link
invariant-loop-link l =
    AreSought (λ k. k.intf == l.intf) l.fn.cports l.cports l.fn.links.items l.links.items
    × (all_forgotten (filter (λ k. k.intf == l.intf) l.links.items) l.images
    ≡ all_forgotten (filter (λ k. k.intf == l.intf) l.fn.links.items) l.fn.images)

abbrev pub decreases-loop-link : goal.decreases-loop-link
decreases-loop-link l = length l.links.items
