-- The next leaves, until none is there.
use Rattle.std.proofs.Common.{◌==◌, refl}
use Rattle.gb_host.proofs.Sought.{fewer-left, none-forgotten, sought-all, sought-next, sought-over}
use Rattle.gb_host.proofs.Sought.{taken-forgotten}
use Rattle.gb_host.proofs.connections.leave_of.Goals as goal

pub loop-link-init : goal.loop-link-init
loop-link-init c = (
  sought-all (λ l. l.intf == c.args.intf) c.args.cports.now c.args.links.now.items,
  refl,
)

pub loop-link-smaller : goal.loop-link-smaller
loop-link-smaller c =
    fewer-left c.in-Some.link c.loop-link.links.items c.take_of.new.self.items c.in-Some.ensures.out

pub loop-link-preserved : goal.loop-link-preserved
loop-link-preserved c = (
  sought-next (λ l. l.intf == c.args.intf) c.args.cports.now c.loop-link.cports c.leave.new.self
      c.args.links.now.items c.loop-link.links.items c.take_of.new.self.items c.take_of.result
      c.in-Some.link c.take_of.ensures.link c.in-Some.is c.in-Some.ensures.out c.leave.ensures
      c.loop-link.invariant.0,
  taken-forgotten (λ l. l.intf == c.args.intf) c.loop-link.links.items c.take_of.new.self.items
      c.take_of.result c.in-Some.link c.loop-link.images c.forget.new.self _ c.take_of.ensures.link
      c.in-Some.is c.in-Some.ensures.out c.forget.ensures c.loop-link.invariant.1,
)

pub returns-clause-left : goal.returns-clause-left
returns-clause-left c =
    (sought-over (λ l. l.intf == c.args.intf) c.args.cports.now c.loop-link.cports
    c.args.links.now.items c.loop-link.links.items c.take_of.new.self.items c.take_of.result
    c.take_of.ensures.link c.in_default.is c.in_default.ensures.out c.loop-link.invariant.0).1

pub returns-clause-counted : goal.returns-clause-counted
returns-clause-counted c =
    (sought-over (λ l. l.intf == c.args.intf) c.args.cports.now c.loop-link.cports
    c.args.links.now.items c.loop-link.links.items c.take_of.new.self.items
    c.take_of.result c.take_of.ensures.link c.in_default.is c.in_default.ensures.out
    c.loop-link.invariant.0).0.counted

pub returns-clause-ids : goal.returns-clause-ids
returns-clause-ids c =
    none-forgotten (λ l. l.intf == c.args.intf) c.loop-link.links.items c.take_of.result
    c.loop-link.images _ c.take_of.ensures.link c.in_default.is c.loop-link.invariant.1
