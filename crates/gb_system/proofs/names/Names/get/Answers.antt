-- What the map has at a name is what the name names.
use Rattle.std.proofs.Common.{◌∙◌, ap}
use Rattle.gb_machine.specs.Names.{named}
use Rattle.gb_system.proofs.HashedNames.{found-sorted}
use Rattle.gb_system.proofs.names.Names.get.Goals as goal

pub returns : goal.returns
returns c =
    c.copied.ensures ∙ c.get.ensures.value
    ∙ found-sorted c.args.name.now c.self.inside.bound.entries c.self.invariant
    ∙ ap (named c.args.name.now) c.self.view_is
