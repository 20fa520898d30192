-- The next leaves, until none is there.
use Rattle.gb_host.proofs.Sought.{fewer-left, sought-all, sought-next, sought-over}
use Rattle.gb_machine.specs.Host.{is_link}
use Rattle.gb_host.proofs.connections.leave_at.Goals as goal

pub loop-link-init : goal.loop-link-init
loop-link-init c =
    sought-all (is_link c.args.intf c.args.cport) c.args.cports.now c.args.links.now.items

pub loop-link-smaller : goal.loop-link-smaller
loop-link-smaller c =
    fewer-left c.in-Some.link c.loop-link.links.items c.take_at.new.self.items c.in-Some.ensures.out

pub loop-link-preserved : goal.loop-link-preserved
loop-link-preserved c =
    sought-next (is_link c.args.intf c.args.cport) c.args.cports.now c.loop-link.cports
    c.leave.new.self c.args.links.now.items c.loop-link.links.items c.take_at.new.self.items
    c.take_at.result c.in-Some.link c.take_at.ensures.link c.in-Some.is c.in-Some.ensures.out
    c.leave.ensures c.loop-link.invariant

pub returns-clause-left : goal.returns-clause-left
returns-clause-left c =
    (sought-over (is_link c.args.intf c.args.cport) c.args.cports.now c.loop-link.cports
    c.args.links.now.items c.loop-link.links.items c.take_at.new.self.items c.take_at.result
    c.take_at.ensures.link c.in_default.is c.in_default.ensures.out c.loop-link.invariant).1

pub returns-clause-counted : goal.returns-clause-counted
returns-clause-counted c =
    (sought-over (is_link c.args.intf c.args.cport) c.args.cports.now c.loop-link.cports
    c.args.links.now.items c.loop-link.links.items c.take_at.new.self.items c.take_at.result
    c.take_at.ensures.link c.in_default.is c.in_default.ensures.out c.loop-link.invariant).0.counted
