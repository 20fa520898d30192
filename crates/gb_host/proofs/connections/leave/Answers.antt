-- The connection that leaves stood between the others, alone at its far end.
use Rattle.std.proofs.Common.{◌<◌, rules, subst, sym}
use Rattle.gb_host.proofs.Leaving.{kept-left, named-left}
use Rattle.gb_host.specs.Awaited.{AreAwaited}
use Rattle.gb_host.specs.Counts.{AreCounted}
use Rattle.gb_host.specs.Named.{AreNamed}
use Rattle.gb_host.proofs.connections.leave.Goals as goal

pub returns-in-Some-clause-counted : goal.returns-in-Some-clause-counted
returns-in-Some-clause-counted c =
    kept-left (AreCounted c.args.cports.now) (AreCounted c.leave.new.self)
    c.args.links.now.items c.take_numbered.new.self.items c.in-Some.link c.in-Some.ensures.out
    c.leave.ensures

pub returns-in-Some-clause-named : goal.returns-in-Some-clause-named
returns-in-Some-clause-named c =
    let low : c.in-Some.link.cport < 65536 = search rules in
    named-left c.args.ends.now c.remove.new.self c.args.links.now.items
    c.take_numbered.new.self.items c.in-Some.link low c.in-Some.ensures.out c.remove.ensures

pub returns-in-Some-clause-awaited : goal.returns-in-Some-clause-awaited
returns-in-Some-clause-awaited c =
    kept-left (AreAwaited c.args.awaited.now) (AreAwaited c.leave-in-Some.new.self)
    c.args.links.now.items c.take_numbered.new.self.items c.in-Some.link c.in-Some.ensures.out
    c.leave-in-Some.ensures

pub returns-in_default-clause-counted : goal.returns-in_default-clause-counted
returns-in_default-clause-counted c =
    subst (AreCounted c.args.cports.now) (sym c.in_default.ensures.out)

pub returns-in_default-clause-named : goal.returns-in_default-clause-named
returns-in_default-clause-named c =
    subst (AreNamed c.args.ends.now) (sym c.in_default.ensures.out)

pub returns-in_default-clause-awaited : goal.returns-in_default-clause-awaited
returns-in_default-clause-awaited c =
    subst (AreAwaited c.args.awaited.now) (sym c.in_default.ensures.out)
