-- The connections so far are gone.
use Rattle.std.proofs.Common.{length}
use Rattle.gb_host.proofs.Sought.{AreSought}
use Rattle.gb_machine.specs.Host.{is_link}
use Rattle.gb_host.proofs.connections.leave_at.Given as goal

abbrev pub invariant-loop-link : goal.invariant-loop-link
invariant-loop-link l =
    AreSought (is_link l.intf l.cport) l.fn.cports l.cports l.fn.links.items l.links.items

abbrev pub decreases-loop-link : goal.decreases-loop-link
decreases-loop-link l = length l.links.items
